use Rattle.std.proofs.Common.{◌≡◌, ◌∙◌, [], true, false, sym, subst}
use Rattle.std.proofs.lemmas.List.{with_items_is}
use Rattle.std.specs.List.{list_any}
use Rattle.sg_gateway.specs.Signals.{ticked}
use Rattle.sg_leg.specs.Pairs.{EachPair}
use Rattle.sg_table.proofs.Ticking.{tick_quiet, idle_tells}
use Rattle.sg_table.specs.Ends.{idles, IsTicked}
use Rattle.sg_table.specs.Standing.{TableStandsFor}
use Rattle.sg_table.specs.Telling.{IsAnswered}
use Rattle.sg_table.specs.contracts.calls.Calls.{the_view}
use Rattle.sg_table.proofs.calls.Calls.tick_quietly.Goals as goal

pub returns-clause-told : goal.returns-clause-told
returns-clause-told c t w stands =
    let viewed : TableStandsFor (the_view c.self.inside) w = subst (λ t. TableStandsFor t w) (sym c.self.view_is) stands in
    subst (λ cs. IsAnswered [] (record { calls = cs; books = c.self.inside.books; moment = c.args.now }) (ticked w c.args.now))
    (sym (with_items_is c.self.inside.by_slot c.tick_each.new.calls (c.tick_each.auto.calls ∙ c.deref_mut.ensures.len)))
    (tick_quiet c.self.inside.by_slot.items c.self.inside.books c.self.inside.moment c.args.now w viewed.holds c.tick_each.new.calls c.if-now-self.false
    (subst (λ cs. list_any (idles c.args.now) cs ≡ false) c.deref.ensures.value (sym c.has_idle.ensures ∙ c.if-has_idle.false))
    (subst (λ cs. EachPair (IsTicked c.args.now) cs c.tick_each.new.calls) c.deref_mut.ensures.value c.tick_each.ensures))

pub returns-then-has_idle-clause-tells : goal.returns-then-has_idle-clause-tells
returns-then-has_idle-clause-tells c f w stands =
    let viewed : TableStandsFor (the_view c.self.inside) w = subst (λ t. TableStandsFor t w) (sym c.self.view_is) stands in
    idle_tells c.self.inside.by_slot.items c.self.inside.books c.self.inside.moment c.args.now w viewed.holds c.if-now-self.false
    (subst (λ cs. list_any (idles c.args.now) cs ≡ true) c.deref.ensures.value (sym c.has_idle.ensures ∙ c.if-has_idle.true))
