use Rattle.std.proofs.Common.{rules, ◌≡◌, ◌<◌, ◌+◌, sym, ap, ◌∙◌, arith, refl, Ok, length, eqb, tests, ℕ, ◌++◌, ◌∷◌, []}
use Rattle.std.proofs.iter.Serving.{serving}
use Rattle.std.proofs.lemmas.List.{length_push}
use Rattle.std.proofs.lemmas.Iterator.Consumers.{YieldsList-turn, YieldsList-end}
use Rattle.std.proofs.lemmas.Iterator.Splits.{YieldsList-from_slice_split}
use Rattle.std.proofs.lemmas.Bool.{eqb-true, eqb-false}
use Rattle.std.proofs.lemmas.Result.{err_from_is_err_and}
use Rattle.sg_sdes.proofs.KeyLoop.{starts, goes_on, fails, too_many, is_done}
use Rattle.sg_sdes.proofs.keys.read_keys.Goals as goal

pub loop-part-init : goal.loop-part-init
loop-part-init c = (grind serving, search rules, rw c.new-keys.ensures refl, rw c.new-keys.ensures (starts c.args.suite c.args.text.now))

pub returns-then-is_full : goal.returns-then-is_full
returns-then-is_full c =
    let t = YieldsList-turn (YieldsList-from_slice_split _ (λ b. eqb b 59) c.args.text.now (rw c.into_iter-part-iterator.ensures.into_iter_gives c.split-part-items.ensures.rest) (rw c.into_iter-part-iterator.ensures.into_iter_gives c.split-part-items.ensures.done) refl (λ x b q k. search (rules, tests))) c.loop-part.yielded _ c.loop-part.yielded_by _ _ c.in-Some.part c.in-Some.is c.next.ensures.steps in
    let full : length c.loop-part.keys.items ≡ 8 = eqb-true _ _ (sym c.if-is_full.ensures.value) in
    sym (too_many c.args.suite c.loop-part.keys.items _ (length c.loop-part.yielded) c.in-Some.part.now _ t full c.loop-part.invariant.3)

pub returns-in_err-inline : goal.returns-in_err-inline
returns-in_err-inline c =
    let t = YieldsList-turn (YieldsList-from_slice_split _ (λ b. eqb b 59) c.args.text.now (rw c.into_iter-part-iterator.ensures.into_iter_gives c.split-part-items.ensures.rest) (rw c.into_iter-part-iterator.ensures.into_iter_gives c.split-part-items.ensures.done) refl (λ x b q k. search (rules, tests))) c.loop-part.yielded _ c.loop-part.yielded_by _ _ c.in-Some.part c.in-Some.is c.next.ensures.steps in
    let other = eqb-false _ _ (sym c.if-is_full.ensures.value) in
    let room : length c.loop-part.keys.items < 8 = grind (arith, other, c.is_full.ensures.fits) in
    let p = err_from_is_err_and c.from_residual.result c.from_residual.ensures.1 in
    rw (p.1, p.2) (sym (fails c.args.suite c.loop-part.keys.items _ (length c.loop-part.yielded) c.in-Some.part.now c.in_err-inline.field-0.0 _ t room (sym c.in_err-inline.ensures) c.loop-part.invariant.3))

pub loop-part-preserved : goal.loop-part-preserved
loop-part-preserved c =
    let t = YieldsList-turn (YieldsList-from_slice_split _ (λ b. eqb b 59) c.args.text.now (rw c.into_iter-part-iterator.ensures.into_iter_gives c.split-part-items.ensures.rest) (rw c.into_iter-part-iterator.ensures.into_iter_gives c.split-part-items.ensures.done) refl (λ x b q k. search (rules, tests))) c.loop-part.yielded _ c.loop-part.yielded_by _ _ c.in-Some.part c.in-Some.is c.next.ensures.steps in
    let other = eqb-false _ _ (sym c.if-is_full.ensures.value) in
    let room : length c.loop-part.keys.items < 8 = grind (arith, other, c.is_full.ensures.fits) in
    let n : length (c.loop-part.yielded ++ c.in-Some.part ∷ []) ≡ length c.loop-part.yielded + 1 = length_push c.loop-part.yielded c.in-Some.part in
    let m : length (c.loop-part.keys.items ++ c.in_ok-inline.field-0 ∷ []) ≡ length c.loop-part.keys.items + 1 = length_push c.loop-part.keys.items c.in_ok-inline.field-0 in
    let kept = goes_on c.args.suite c.loop-part.keys.items _ (length c.loop-part.yielded) c.in-Some.part.now c.in_ok-inline.field-0 _ t room (sym c.in_ok-inline.ensures) c.loop-part.invariant.3 in
    (search rules, search rules, rw (c.push.ensures.items, n, m) (ap (λ (x : ℕ). x + 1) c.loop-part.invariant.2), rw (c.push.ensures.items, n, m) kept)

pub returns : goal.returns
returns c =
    let t = YieldsList-end (YieldsList-from_slice_split _ (λ b. eqb b 59) c.args.text.now (rw c.into_iter-part-iterator.ensures.into_iter_gives c.split-part-items.ensures.rest) (rw c.into_iter-part-iterator.ensures.into_iter_gives c.split-part-items.ensures.done) refl (λ x b q k. search (rules, tests))) c.loop-part.yielded _ c.loop-part.yielded_by _ _ c.in-None.is c.next.ensures.steps in
    ap Ok c.of.ensures ∙ sym (is_done c.args.suite c.loop-part.keys.items _ (length c.loop-part.yielded) _ (omega (arith, t.1)) c.loop-part.invariant.3)
