use Rattle.std.proofs.Common.{◌≡◌, ◌∙◌, sym, subst, map}
use Rattle.std.specs.List.{filter}
use Rattle.std.proofs.lemmas.List.{with_items_is}
use Rattle.sg_leg.specs.Pairs.{EachPair}
use Rattle.sg_gateway.specs.Signals.{ticked}
use Rattle.sg_outcome.specs.declared.outcomes.Why.TheVariants as why
use Rattle.sg_table.proofs.Ticking.{tick_on}
use Rattle.sg_table.specs.Ends.{ended_as, idles, IsTicked}
use Rattle.sg_table.specs.Standing.{TableStandsFor}
use Rattle.sg_table.specs.Telling.{IsAnswered}
use Rattle.sg_table.specs.contracts.calls.Calls.{the_view}
use Rattle.sg_table.proofs.calls.Calls.tick.Goals as goal

pub returns : goal.returns
returns c w stands =
    let viewed : TableStandsFor (the_view c.self.inside) w = subst (λ t. TableStandsFor t w) (sym c.self.view_is) stands in
    subst (λ cs. IsAnswered c.tell_idle.new.told.items (record { calls = cs; books = c.self.inside.books; moment = c.args.now }) (ticked w c.args.now))
    (sym (with_items_is c.drop_idle.new.calls c.tick_each.new.calls (c.tick_each.auto.calls ∙ c.deref_mut.ensures.len)))
    (tick_on c.self.inside.by_slot.items c.self.inside.books c.self.inside.moment c.args.now w viewed.holds c.tell_idle.new.told.items c.drop_idle.new.calls.items c.tick_each.new.calls c.if-now-self.false
    (subst (λ cs. c.tell_idle.new.told.items ≡ map (ended_as why.Idle) (filter (idles c.args.now) cs)) c.deref.ensures.value c.tell_idle.ensures) c.drop_idle.ensures.items
    (subst (λ cs. EachPair (IsTicked c.args.now) cs c.tick_each.new.calls) c.deref_mut.ensures.value c.tick_each.ensures))
