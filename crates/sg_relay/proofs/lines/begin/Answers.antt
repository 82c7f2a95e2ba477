use Rattle.std.proofs.Common.{ℕ, [], ◌∷◌, refl, subst, Ok, Err}
use Rattle.sg_relay.proofs.Common.{AreHandled, moment_of, weaves_of}
use Rattle.sg_relay.proofs.Says.{cut_begun}
use Rattle.sg_relay.proofs.lines.begin.Goals as goal

pub returns-in-Err-tick-clause-begun : goal.returns-in-Err-tick-clause-begun
returns-in-Err-tick-clause-begun g c = λ state stands.
    let w = weaves_of g.E.Line.ScriptLine.spelled g.E.Line.ScriptLine.followed g.E.Handling.waits g.E.Handling.gives g.E.Handling.ticks g.E.Handling.arrives in
    let acting = g.E.Handling.acting in
    let handled = c.in-Err-tick.ensures.ticked state stands in
    let r : ℕ = c.in-Ok.reading in (
      r ∷ [],
      handled.0,
      handled.1,
      c.in-Ok.ensures.gave,
      handled.2,
      handled.3,
      cut_begun w acting c.in-Err-tick.status state (g.E.Handling.stands c.tick.new.self) r handled.0 handled.1 c.in-Err-tick.ensures.only
          (subst (λ (m : ℕ). AreHandled {T = Unit {0}} (Err c.in-Err-tick.status) acting state (w.ticks m) (g.E.Handling.stands c.tick.new.self) handled.0 handled.1) c.min-began.ensures handled.4),
    )

pub returns-in-Ok-tick-clause-begun : goal.returns-in-Ok-tick-clause-begun
returns-in-Ok-tick-clause-begun g c = λ state stands.
    let acting = g.E.Handling.acting in
    let handled = c.in-Ok-tick.ensures.ticked state stands in
    let r : ℕ = c.in-Ok.reading in
    let begun : AreHandled {T = Unit {0}} (Ok tt) acting state (g.E.Handling.ticks (moment_of r)) (g.E.Handling.stands c.tick.new.self) handled.0 handled.1 =
    subst (λ (m : ℕ). AreHandled {T = Unit {0}} (Ok tt) acting state (g.E.Handling.ticks m) (g.E.Handling.stands c.tick.new.self) handled.0 handled.1) c.min-began.ensures handled.4 in (
      r ∷ [],
      handled.0,
      handled.1,
      c.in-Ok.ensures.gave,
      handled.2,
      handled.3,
      (r, refl, c.min-began.ensures, begun.2, begun.0, begun.1, begun.3),
    )
