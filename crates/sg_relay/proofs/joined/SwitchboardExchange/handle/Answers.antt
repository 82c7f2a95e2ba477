use Rattle.std.proofs.Common.{[], ◌∷◌, sym, ap, subst}
use Rattle.sg_pairs.specs.declared.lines.BridgeLine.{BridgeLine}
use Rattle.sg_relay.proofs.Common.{IsGiven, Joins, Parts, StandsFor, acting, added_none, gives}
use Rattle.sg_relay.proofs.Gives.{given_so}
use Rattle.sg_relay.proofs.Joins.{one_carried_out}
use Rattle.sg_relay.proofs.joined.SwitchboardExchange.handle.Goals as goal

pub returns-in-Script-clause-handled : goal.returns-in-Script-clause-handled
returns-in-Script-clause-handled g c = λ state stands.
    let handled = c.handle_line.ensures.handled state stands in (
      handled.0,
      handled.1,
      handled.2,
      handled.3,
      handled.4,
      handled.5,
      subst (λ (l : BridgeLine). IsGiven c.handle_line.result (gives l) acting state (StandsFor c.handle_line.new.handling) handled.0 handled.1 handled.2) (sym c.in-Script.is) handled.6,
    )

pub returns-in-Join-clause-handled : goal.returns-in-Join-clause-handled
returns-in-Join-clause-handled g c = λ state stands.
    let x = Joins c.in-Join.first c.in-Join.second in
    let said = c.join-joined.ensures state stands in
    let done = c.hand_back.ensures.done in (
      done.0,
      [],
      done.1,
      done.2,
      added_none _,
      done.3,
      given_so c.hand_back.result (gives c.args.line) acting state (x ∷ []) (StandsFor c.join-joined.new.self) done.0 [] done.1 c.hand_back.ensures.only (λ more. ap (λ (l : BridgeLine). gives l more) c.in-Join.is)
          (one_carried_out state x (c.join-joined.result ∷ []) said.0 (StandsFor c.join-joined.new.self) done.0 done.1 c.hand_back.result done.4 said.1),
    )

pub returns-in-Part-clause-handled : goal.returns-in-Part-clause-handled
returns-in-Part-clause-handled g c = λ state stands.
    let x = Parts c.in-Part.call in
    let said = c.part-parted.ensures state stands in
    let done = c.hand_back-in-Part.ensures.done in (
      done.0,
      [],
      done.1,
      done.2,
      added_none _,
      done.3,
      given_so c.hand_back-in-Part.result (gives c.args.line) acting state (x ∷ []) (StandsFor c.part-parted.new.self) done.0 [] done.1 c.hand_back-in-Part.ensures.only (λ more. ap (λ (l : BridgeLine). gives l more) c.in-Part.is)
          (one_carried_out state x (c.part-parted.result ∷ []) said.0 (StandsFor c.part-parted.new.self) done.0 done.1 c.hand_back-in-Part.result done.4 said.1),
    )
