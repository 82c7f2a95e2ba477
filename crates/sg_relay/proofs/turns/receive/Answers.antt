use Rattle.std.proofs.Common.{[], ◌∷◌, subst, refl, inl, Ok}
use Rattle.sg_relay.proofs.Common.{Called, Came, Failing, Nothing, Receive, arrivals_of, called_more, received, weaves_of, wrote_none}
use Rattle.sg_relay.proofs.Deeds.{handled_none}
use Rattle.sg_relay.proofs.Waits.{received_more, received_nothing}
use Rattle.sg_relay.proofs.turns.receive.Goals as goal

pub returns-in-Err-clause-received : goal.returns-in-Err-clause-received
returns-in-Err-clause-received g c = λ state stands. (
  Failing,
  Receive Failing ∷ [],
  [],
  c.in-Err.ensures.told,
  wrote_none _,
  inl (refl, refl, refl),
  ([], refl, refl),
)

pub returns-in-Ok-Nothing-clause-received : goal.returns-in-Ok-Nothing-clause-received
returns-in-Ok-Nothing-clause-received g c = λ state stands.
    let w = weaves_of g.E.Line.ScriptLine.spelled g.E.Line.ScriptLine.followed g.E.Handling.waits g.E.Handling.gives g.E.Handling.ticks g.E.Handling.arrives in (
      Nothing,
      Receive Nothing ∷ [],
      [],
      subst (λ r. Called (g.L.Link.told c.args.link.now) (g.L.Link.told c.receive.new.self) (Receive (received (Ok r) c.receive.new.pad) ∷ [])) c.in-Ok-Nothing.field-0-is c.in-Ok-Nothing.ensures.told,
      wrote_none _,
      received_nothing w g.E.Handling.acting c.are_in_order.ensures c.receive.new.pad state (g.E.Handling.stands c.args.exchange.now) stands,
      ([], refl, refl),
    )

pub returns-in-Ok-Got-clause-received : goal.returns-in-Ok-Got-clause-received
returns-in-Ok-Got-clause-received g c = λ state stands.
    let w = weaves_of g.E.Line.ScriptLine.spelled g.E.Line.ScriptLine.followed g.E.Handling.waits g.E.Handling.gives g.E.Handling.ticks g.E.Handling.arrives in
    let acting = g.E.Handling.acting in
    let handled = c.arrive.ensures.arrived state stands in
    let x = Came c.in-Ok-Got.port c.in-Ok-Got.from c.receive.new.pad in (
      x,
      Receive x ∷ handled.0,
      handled.1,
      called_more _ _ _ (Receive x ∷ []) handled.0
          (subst (λ r. Called (g.L.Link.told c.args.link.now) (g.L.Link.told c.receive.new.self) (Receive (received (Ok r) c.receive.new.pad) ∷ [])) c.in-Ok-Got.field-0-is c.in-Ok-Got.ensures.told) handled.2,
      handled.3,
      received_more w acting c.arrive.result state (g.E.Handling.stands c.arrive.new.self) x handled.0 handled.1 tt handled.4,
      (handled.0, refl, handled_none c.arrive.result acting state (arrivals_of w x) (g.E.Handling.stands c.arrive.new.self) handled.0 handled.1 handled.4),
    )
