use Rattle.std.proofs.Common.{[], subst, sym, arith, Ok}
use Rattle.sg_relay.proofs.Common.{AreHandled, called_none, cond-false, cond-true, le-ltb, lt-ltb, wrote_none}
use Rattle.sg_relay.proofs.Waits.{handled_nothing}
use Rattle.sg_relay.proofs.turns.tick.Goals as goal

pub returns-then-moment-top-clause-handled : goal.returns-then-moment-top-clause-handled
returns-then-moment-top-clause-handled g c = λ state stands.
    let acting = g.E.Handling.acting in (
      [],
      [],
      called_none _,
      wrote_none _,
      subst (λ ds. AreHandled {T = Unit {0}} (Ok tt) acting state ds (g.E.Handling.stands c.args.exchange.now) [] []) (sym (cond-false _ _ _ (le-ltb c.args.top.now c.args.moment c.if-moment-top.true)))
          (handled_nothing acting c.are_in_order.ensures state (g.E.Handling.stands c.args.exchange.now) stands),
    )

pub returns-clause-handled : goal.returns-clause-handled
returns-clause-handled g c = λ state stands.
    let told = c.tick.ensures.ticked state stands in (
      told.0,
      told.1,
      told.2,
      told.3,
      subst (λ ds. AreHandled c.tick.result g.E.Handling.acting state ds (g.E.Handling.stands c.tick.new.self) told.0 told.1)
          (sym (cond-true _ _ _ (lt-ltb c.args.top.now c.args.moment (omega (arith, c.if-moment-top.false))))) told.4,
    )
