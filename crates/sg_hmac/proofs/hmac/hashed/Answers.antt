use Rattle.std.proofs.Common.{◌≡◌, ◌<◌, ◌≤◌, ℕ, List, [], ◌∷◌, ◌++◌, map, length, bit_xor, get_or, arith, ap, sym, ◌∙◌, subst}
use Rattle.std.proofs.lemmas.List.{take_more_set, map_more, take_all, length-set}
use Rattle.sha1.specs.Sha1.{Holds}
use Rattle.sg_hmac.proofs.hmac.hashed.Goals as goal

pub loop-i-preserved : goal.loop-i-preserved
loop-i-preserved c =
    let f = λ (x : ℕ). bit_xor x c.args.pad in
    let y = f (get_or c.args.block.now c.loop-i.i 0) in
    let in_block : c.loop-i.i < length c.args.block.now = omega arith in
    let in_padded : c.loop-i.i < length c.loop-i.padded = omega arith in (
      simp length-set c.loop-i.invariant.0,
      take_more_set c.loop-i.padded c.loop-i.i y in_padded
          ∙ ap (λ (l : List ℕ). l ++ y ∷ []) c.loop-i.invariant.1
          ∙ sym (map_more f c.args.block.now c.loop-i.i 0 in_block),
    )

pub returns : goal.returns
returns c =
    let short : length c.loop-i.padded ≤ c.loop-i.i = omega arith in
    let whole : length c.args.block.now ≤ c.loop-i.i = omega arith in
    let is : c.loop-i.padded ≡ map (λ x. bit_xor x c.args.pad) c.args.block.now =
    sym (take_all c.loop-i.i c.loop-i.padded short) ∙ c.loop-i.invariant.1 ∙ ap (map (λ (x : ℕ). bit_xor x c.args.pad)) (take_all c.loop-i.i c.args.block.now whole) in
    subst (λ (m : List ℕ). Holds c.update.new.self m) is (c.update.ensures [] c.new-state.ensures)
