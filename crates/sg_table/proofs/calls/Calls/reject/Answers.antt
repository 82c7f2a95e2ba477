use Rattle.std.proofs.Common.{◌∙◌, [], ◌∷◌, Ok, sym, ap, subst}
use Rattle.std.proofs.lemmas.List.{with_items_is}
use Rattle.std.specs.List.{position, remove}
use Rattle.sg_table.specs.Found.{has_id}
use Rattle.sg_table.specs.Standing.{TableStandsFor}
use Rattle.sg_table.specs.Telling.{IsAnswered}
use Rattle.sg_table.specs.Values.{TableValue}
use Rattle.sg_table.specs.contracts.calls.Calls.{the_view}
use Rattle.sg_gateway.specs.Signals.{rejected}
use Rattle.sg_call.specs.Values.{CallValue}
use Rattle.sg_gateway.specs.World.{call_of}
use Rattle.sg_outcome.specs.declared.outcomes.Outcome.TheVariants.{Ended}
use Rattle.sg_outcome.specs.declared.outcomes.Why.TheVariants as why
use Rattle.sg_table.proofs.Answered.{order_of, told_one}
use Rattle.sg_table.proofs.Ending.{unknown_rejected, went_on, has_ended, was_refused}
use Rattle.sg_table.specs.Ends.{IsRejectedAt}
use Rattle.sg_table.proofs.calls.Calls.reject.Goals as goal

pub returns-in_default : goal.returns-in_default
returns-in_default c w stands =
    unknown_rejected c.args.self.now.calls c.args.self.now.books c.args.self.now.moment w stands.holds (order_of c.calls_in_order.ensures c.args.self.now w stands) c.args.id c.refused.new.told.items
    (ap (position (has_id c.args.id)) (ap (λ (t : TableValue). t.calls) (sym c.self.view_is) ∙ sym c.deref.ensures.value) ∙ sym c.position_of.ensures.value ∙ c.in_default.is) c.refused.ensures

pub returns-in-Ok-true : goal.returns-in-Ok-true
returns-in-Ok-true c w stands =
    let viewed : TableStandsFor (the_view c.self.inside) w = subst (λ t. TableStandsFor t w) (sym c.self.view_is) stands in
    subst (λ cs. IsAnswered c.args.told.now.items (record { calls = cs; books = c.self.inside.books; moment = c.self.inside.moment }) (rejected w c.args.id (call_of w c.args.id)))
    (sym (with_items_is c.self.inside.by_slot c.reject_at.new.calls (c.reject_at.auto.calls ∙ c.deref_mut.ensures.len)))
    (went_on c.self.inside.by_slot.items c.self.inside.books c.self.inside.moment w viewed.holds (order_of c.calls_in_order.ensures (the_view c.self.inside) w viewed) c.args.id c.args.told.now.items c.in-Some.i
    (ap (position (has_id c.args.id)) (sym c.deref.ensures.value) ∙ sym c.position_of.ensures.value ∙ c.in-Some.is) c.reject_at.result c.reject_at.new.calls
    (subst (λ cs. IsRejectedAt c.self.inside.moment c.in-Some.i c.reject_at.result cs c.reject_at.new.calls) c.deref_mut.ensures.value c.reject_at.ensures) (c.in-Ok-true.is ∙ ap (λ b. Ok b) c.in-Ok-true.field-0-test) c.requires.none)

pub returns-in-Ok-false : goal.returns-in-Ok-false
returns-in-Ok-false c w stands =
    let viewed : TableStandsFor (the_view c.self.inside) w = subst (λ t. TableStandsFor t w) (sym c.self.view_is) stands in
    let done = subst (λ cs. IsRejectedAt c.self.inside.moment c.in-Some.i c.reject_at.result cs c.reject_at.new.calls) c.deref_mut.ensures.value c.reject_at.ensures in
    let at = c.place_of-slot.ensures ∙ ap (λ (v : CallValue). (v.slot, v.media)) (c.index.ensures ∙ done.was c.index.result.now) in
    has_ended c.self.inside.by_slot.items c.self.inside.books c.self.inside.moment w viewed.holds (order_of c.calls_in_order.ensures (the_view c.self.inside) w viewed) c.args.id c.push.new.self.items c.in-Some.i
    (ap (position (has_id c.args.id)) (sym c.deref.ensures.value) ∙ sym c.position_of.ensures.value ∙ c.in-Some.is) c.reject_at.result c.reject_at.new.calls done (c.in-Ok-false.is ∙ ap (λ b. Ok b) c.in-Ok-false.field-0-test) c.remove.new.self.items
    (c.remove.ensures.items ∙ ap (λ cs. remove cs c.in-Some.i) (with_items_is c.self.inside.by_slot c.reject_at.new.calls (c.reject_at.auto.calls ∙ c.deref_mut.ensures.len)))
    (told_one _ _ _ c.requires.none c.push.ensures.items ∙ (λ j. Ended c.args.id (at j).0 (at j).1 why.Rejected ∷ []))

pub returns-in-Err : goal.returns-in-Err
returns-in-Err c w stands =
    let viewed : TableStandsFor (the_view c.self.inside) w = subst (λ t. TableStandsFor t w) (sym c.self.view_is) stands in
    subst (λ cs. IsAnswered c.refused-in-Err.new.told.items (record { calls = cs; books = c.self.inside.books; moment = c.self.inside.moment }) (rejected w c.args.id (call_of w c.args.id)))
    (sym (with_items_is c.self.inside.by_slot c.reject_at.new.calls (c.reject_at.auto.calls ∙ c.deref_mut.ensures.len)))
    (was_refused c.self.inside.by_slot.items c.self.inside.books c.self.inside.moment w viewed.holds (order_of c.calls_in_order.ensures (the_view c.self.inside) w viewed) c.args.id c.refused-in-Err.new.told.items c.in-Some.i
    (ap (position (has_id c.args.id)) (sym c.deref.ensures.value) ∙ sym c.position_of.ensures.value ∙ c.in-Some.is) c.reject_at.result c.reject_at.new.calls
    (subst (λ cs. IsRejectedAt c.self.inside.moment c.in-Some.i c.reject_at.result cs c.reject_at.new.calls) c.deref_mut.ensures.value c.reject_at.ensures) c.in-Err.cause c.in-Err.is c.refused-in-Err.ensures)
