use Rattle.std.proofs.Common.{arith, refl}
use Rattle.std.proofs.lemmas.Bool.Decides.{nat_tests}
use Rattle.sg_lines.proofs.Searches.{all_fields, last_field, next_field, next_shorter, nine_fields}
use Rattle.sg_lines.proofs.reading.fields.Goals as goal

pub overflow_add-rest : goal.overflow_add-rest
overflow_add-rest c = omega (arith, c.in-Some.ensures.0.high, c.spaces.invariant.1, c.well_formed)

pub spaces-preserved : goal.spaces-preserved
spaces-preserved c = (
  next_field c.spaces.fields.items c.push.new.self.items _ (λ x. x.now) c.args.body.now c.spaces.rest.now c.in-Some.place c.push.ensures.items refl c.spaces.invariant.0 c.in-Some.ensures,
  next_shorter c.spaces.rest.now c.in-Some.place _ c.spaces.invariant.1,
)

pub returns-then-is_full : goal.returns-then-is_full
returns-then-is_full c = nine_fields c.spaces.fields.items (λ x. x.now) _ _ (grind (arith, nat_tests)) c.spaces.invariant.0

pub returns-then-is_full-2 : goal.returns-then-is_full-2
returns-then-is_full-2 c = nine_fields c.spaces.fields.items (λ x. x.now) _ _ (grind (arith, nat_tests)) c.spaces.invariant.0

pub returns : goal.returns
returns c =
    all_fields c.push-2.new.self.items (λ x. x.now) _ (grind (arith, nat_tests))
    (last_field c.spaces.fields.items c.push-2.new.self.items _ (λ x. x.now) c.args.body.now c.spaces.rest.now c.push-2.ensures.items refl c.spaces.invariant.0 c.in_default.ensures)
