use Rattle.std.proofs.Common.{◌≡◌, ◌+◌, ◌-◌, ◌++◌, ◌∷◌, [], ◌∙◌, Ok, ap, sym, subst, arith, eq-eqb}
use Rattle.sg_base.specs.declared.faults.PskFault.TheVariants.{KeyType}
use Rattle.sg_psk.specs.KeyData.{key_part, keys_at}
use Rattle.sg_psk.specs.StandsFor.{Gives, or_fault}
use Rattle.sg_psk.proofs.KeyLemmas.{behind, last_part, next_part, not_over, not_zero}
use Rattle.sg_psk.proofs.key_data.read_keys.Goals as goal

pub returns-then-not-is_empty : goal.returns-then-not-is_empty
returns-then-not-is_empty c =
    ap (or_fault KeyType)
    (not_over c.loop.keys 8 c.loop.counter c.loop.rest.now (key_part c.in-Some.part.next c.in-Some.part.key.now c.in-Some.part.spi c.in-Some.part.rest.now) _
    c.loop-test.true (sym c.in-Some.ensures) (eq-eqb c.in-Some.part.next 0 (omega (arith, c.if-part-eq0.true))) (sym c.if-not-is_empty.ensures) c.loop.invariant)

pub returns-then-part-eq0 : goal.returns-then-part-eq0
returns-then-part-eq0 c =
    let items = c.in_ok-push.ensures.ok ∙ ap (λ k. c.loop.keys ++ record { key = k; spi = c.in-Some.part.spi } ∷ []) c.in_ok-key.ensures in
    let total =
    last_part c.loop.keys 8 c.loop.counter c.loop.rest.now (key_part c.in-Some.part.next c.in-Some.part.key.now c.in-Some.part.spi c.in-Some.part.rest.now) _
    c.loop-test.true (sym c.in-Some.ensures) (eq-eqb c.in-Some.part.next 0 (omega (arith, c.if-part-eq0.true))) (sym c.if-not-is_empty.ensures) c.loop.invariant in
    subst (λ o. Gives (λ keys tgks. keys ≡ tgks) (Ok c.push.new.self) (or_fault KeyType o)) (sym total) items

pub loop-preserved : goal.loop-preserved
loop-preserved c =
    let items = c.in_ok-push.ensures.ok ∙ ap (λ k. c.loop.keys ++ record { key = k; spi = c.in-Some.part.spi } ∷ []) c.in_ok-key.ensures in
    ap (λ ks. behind ks (keys_at (8 - (c.loop.counter + 1)) c.in-Some.part.rest.now)) items
    ∙ next_part c.loop.keys 8 c.loop.counter c.loop.rest.now (key_part c.in-Some.part.next c.in-Some.part.key.now c.in-Some.part.spi c.in-Some.part.rest.now) _
    c.loop-test.true (sym c.in-Some.ensures) (not_zero c.in-Some.part.next (λ e. omega (arith, e, c.if-part-eq0.false))) c.loop.invariant
