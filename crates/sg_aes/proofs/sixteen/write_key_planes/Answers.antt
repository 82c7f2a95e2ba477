use Rattle.std.proofs.Common.{List, ℕ, ◌%◌, arith, bit_xor, slice_index, subst}
use Rattle.sg_aes.specs.Planes.{ArePlanesIn, key_at}
use Rattle.sg_aes.proofs.PlaneLemmas.{kept_first, kept_more}
use Rattle.sg_aes.proofs.sixteen.write_key_planes.Goals as goal

pub keep-init : goal.keep-init
keep-init c =
    kept_first c.args.words.now c.args.kept.now c.kept_planes.result c.told-kept
    (subst (λ (k : List ℕ). ArePlanesIn (λ p j. bit_xor (slice_index k (p % 16)) 0) c.kept_planes.result) c.round_key.ensures c.kept_planes.ensures)

pub keep-preserved : goal.keep-preserved
keep-preserved c =
    kept_more c.args.words.now c.keep.kept c.keep.r c.kept_planes-in-keep.result (omega arith) (omega arith) c.keep.invariant
    (subst (λ (k : List ℕ). ArePlanesIn (key_at k) c.kept_planes-in-keep.result) c.round_key-in-keep.ensures c.kept_planes-in-keep.ensures)
