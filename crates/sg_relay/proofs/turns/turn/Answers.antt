use Rattle.std.proofs.Common.{◌≤◌, ℕ, List, [], ◌∷◌, ◌++◌, length, max, refl, sym, ap, subst, ◌∙◌, arith, Ok}
use Rattle.sg_relay.proofs.Common.{AreHandled, IsTurn, Received, StopsWith, called_more, ticks_at, ticks_of, weaves_of, wrote_more}
use Rattle.sg_relay.proofs.Order.{ticked_order, turn_order}
use Rattle.sg_relay.proofs.Waits.{cut_received, cut_turn, turn_done}
use Rattle.sg_relay.proofs.turns.turn.Goals as goal

pub returns-in-Err-tick-clause-turned : goal.returns-in-Err-tick-clause-turned
returns-in-Err-tick-clause-turned g c = λ state stands.
    let w = weaves_of g.E.Line.ScriptLine.spelled g.E.Line.ScriptLine.followed g.E.Handling.waits g.E.Handling.gives g.E.Handling.ticks g.E.Handling.arrives in
    let acting = g.E.Handling.acting in
    let handled = c.in-Err-tick.ensures.handled state stands in
    let r : ℕ = c.in-Ok.reading in
    let few : length (let none : List Received = [] in none) ≤ 1 = omega arith in (
      r ∷ [],
      handled.0,
      handled.1,
      c.in-Ok.ensures.gave,
      handled.2,
      handled.3,
      cut_turn w acting c.in-Err-tick.status state c.args.top.now c.tick.new.top (g.E.Handling.stands c.tick.new.exchange) (r ∷ []) handled.0 handled.1 c.in-Err-tick.ensures.only
          (r, [], refl, handled.4.1, few, subst (λ (m : ℕ). StopsWith c.in-Err-tick.status (acting.acts state (ticks_at w c.args.top.now m)) handled.0 handled.1) c.min-moment.ensures handled.4.0),
      ticked_order w acting state c.args.top.now r handled.0 handled.4.1,
    )

pub returns-in-Err-receive-clause-turned : goal.returns-in-Err-receive-clause-turned
returns-in-Err-receive-clause-turned g c = λ state stands.
    let w = weaves_of g.E.Line.ScriptLine.spelled g.E.Line.ScriptLine.followed g.E.Handling.waits g.E.Handling.gives g.E.Handling.ticks g.E.Handling.arrives in
    let acting = g.E.Handling.acting in
    let handled = c.in-Ok-tick.ensures.handled state stands in
    let r : ℕ = c.in-Ok.reading in
    let top : ℕ = c.args.top.now in
    let ticked : AreHandled {T = Unit {0}} (Ok tt) acting state (ticks_of w top r) (g.E.Handling.stands c.tick.new.exchange) handled.0 handled.1 =
    subst (λ (m : ℕ). AreHandled {T = Unit {0}} (Ok tt) acting state (ticks_at w top m) (g.E.Handling.stands c.tick.new.exchange) handled.0 handled.1) c.min-moment.ensures handled.4 in
    let received = c.in-Err-receive.ensures.received (acting.after state (ticks_of w top r)) ticked.3 in (
      r ∷ [],
      handled.0 ++ received.1,
      handled.1 ++ received.2,
      c.in-Ok.ensures.gave,
      called_more _ _ _ handled.0 received.1 handled.2 received.3,
      wrote_more _ _ _ handled.1 received.2 handled.3 received.4,
      cut_received w acting c.are_in_order.ensures (List ℕ) c.in-Err-receive.status state top c.tick.new.top r received.0 (g.E.Handling.stands c.tick.new.exchange) (g.E.Handling.stands c.receive.new.exchange) handled.0 received.1 handled.1 received.2
          c.in-Err-receive.ensures.only ticked received.5,
      turn_order w acting state top r received.0 handled.0 received.1 ticked.2 ticked.0.asked received.6,
    )

pub returns-in-Ok-receive-clause-turned : goal.returns-in-Ok-receive-clause-turned
returns-in-Ok-receive-clause-turned g c = λ state stands.
    let w = weaves_of g.E.Line.ScriptLine.spelled g.E.Line.ScriptLine.followed g.E.Handling.waits g.E.Handling.gives g.E.Handling.ticks g.E.Handling.arrives in
    let acting = g.E.Handling.acting in
    let handled = c.in-Ok-tick.ensures.handled state stands in
    let r : ℕ = c.in-Ok.reading in
    let top : ℕ = c.args.top.now in
    let ticked : AreHandled {T = Unit {0}} (Ok tt) acting state (ticks_of w top r) (g.E.Handling.stands c.tick.new.exchange) handled.0 handled.1 =
    subst (λ (m : ℕ). AreHandled {T = Unit {0}} (Ok tt) acting state (ticks_at w top m) (g.E.Handling.stands c.tick.new.exchange) handled.0 handled.1) c.min-moment.ensures handled.4 in
    let received = c.in-Ok-receive.ensures.received (acting.after state (ticks_of w top r)) ticked.3 in (
      r ∷ [],
      handled.0 ++ received.1,
      handled.1 ++ received.2,
      c.in-Ok.ensures.gave,
      called_more _ _ _ handled.0 received.1 handled.2 received.3,
      wrote_more _ _ _ handled.1 received.2 handled.3 received.4,
      subst (λ (m : ℕ). IsTurn (Ok (m, c.in-Ok-receive.pad)) w acting state top c.tick.new.top (g.E.Handling.stands c.receive.new.exchange) (r ∷ []) (handled.0 ++ received.1) (handled.1 ++ received.2)) (sym c.min-moment.ensures)
          (turn_done w acting c.are_in_order.ensures c.in-Ok-receive.pad state top c.tick.new.top r received.0 (g.E.Handling.stands c.tick.new.exchange) (g.E.Handling.stands c.receive.new.exchange) handled.0 received.1 handled.1 received.2 ticked received.5
          (c.tick.ensures.top ∙ ap (λ (m : ℕ). max top m) c.min-moment.ensures)),
      turn_order w acting state top r received.0 handled.0 received.1 ticked.2 ticked.0.asked received.6,
    )
