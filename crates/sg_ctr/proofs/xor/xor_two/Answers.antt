use Rattle.std.proofs.Common.{ℕ, ◌*◌, subst, slice_index}
use Rattle.sg_ctr.specs.Xor.{XorsOnto}
use Rattle.sg_ctr.proofs.XorLemmas.{pair_xored}
use Rattle.sg_ctr.proofs.xor.xor_two.Goals as goal

pub returns : goal.returns
returns c = λ counter held.
    pair_xored c.args.schedule.now counter c.args.number c.args.count c.counters.result c.pair-stream.result c.args.part.now c.xor_onto.new.part c.requires.within
    (c.counters.ensures counter held) c.pair-stream.ensures
    (subst (λ (n : ℕ). XorsOnto c.args.part.now c.xor_onto.new.part (16 * n) c.args.count (slice_index c.pair-stream.result)) c.from.ensures c.xor_onto.ensures)
