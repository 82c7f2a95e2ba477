use Rattle.std.proofs.Common.{◌∙◌, [], ◌∷◌, sym, ap, subst}
use Rattle.std.specs.List.{position}
use Rattle.sg_table.specs.Found.{has_id}
use Rattle.sg_table.specs.Standing.{TableStandsFor}
use Rattle.sg_table.specs.Telling.{IsAnswered}
use Rattle.sg_table.specs.Values.{TableValue}
use Rattle.sg_table.specs.contracts.calls.Calls.{the_view}
use Rattle.sg_gateway.specs.Signals.{left}
use Rattle.sg_gateway.specs.World.{call_of}
use Rattle.sg_outcome.specs.declared.outcomes.Why.TheVariants.{Bye}
use Rattle.sg_table.proofs.Answered.{order_of, told_one}
use Rattle.sg_table.proofs.Ending.{unknown_left, left_at}
use Rattle.sg_table.specs.Ends.{ended_as}
use Rattle.sg_table.proofs.calls.Calls.bye.Goals as goal

pub returns-in_default : goal.returns-in_default
returns-in_default c w stands =
    unknown_left c.args.self.now.calls c.args.self.now.books c.args.self.now.moment w stands.holds (order_of c.calls_in_order.ensures c.args.self.now w stands) c.args.id c.refused.new.told.items
    (ap (position (has_id c.args.id)) (ap (λ (t : TableValue). t.calls) (sym c.self.view_is) ∙ sym c.deref.ensures.value) ∙ sym c.position_of.ensures.value ∙ c.in_default.is) c.refused.ensures

pub returns : goal.returns
returns c w stands =
    let viewed : TableStandsFor (the_view c.self.inside) w = subst (λ t. TableStandsFor t w) (sym c.self.view_is) stands in
    subst (λ cs. IsAnswered c.push.new.self.items (record { calls = cs; books = c.self.inside.books; moment = c.self.inside.moment }) (left w c.args.id (call_of w c.args.id))) (sym c.remove.ensures.items)
    (left_at c.self.inside.by_slot.items c.self.inside.books c.self.inside.moment w viewed.holds (order_of c.calls_in_order.ensures (the_view c.self.inside) w viewed) c.args.id c.push.new.self.items c.in-Some.i
    (ap (position (has_id c.args.id)) (sym c.deref.ensures.value) ∙ sym c.position_of.ensures.value ∙ c.in-Some.is) c.index.result.now
    (told_one _ _ _ c.requires.none c.push.ensures.items ∙ (λ j. (c.ended.ensures ∙ ap (ended_as Bye) c.index.ensures) j ∷ [])))
