use Rattle.std.proofs.Common.{[], List, sym, subst, ◌∙◌}
use Rattle.sg_relay.proofs.Common.{AreHandled, Happens, Outcome, Said, Signalled, StandsFor, SwitchboardValue, acting, after, bridging, called_none}
use Rattle.sg_relay.proofs.Common.{events_of_signal, happen_all, signal_noted, signal_of, told_and_parted, wrote_none}
use Rattle.sg_relay.proofs.Deeds.{unhandled}
use Rattle.sg_relay.proofs.Joins.{happens_one, on_ok, one_handled}
use Rattle.sg_relay.proofs.joined.SwitchboardHandling.obey.Goals as goal
use Rattle.sg_table.specs.Telling.{IsTold}

pub returns-in-Err-clause-obeyed : goal.returns-in-Err-clause-obeyed
returns-in-Err-clause-obeyed g c = λ state stands.
    ([], [], called_none _, wrote_none _, unhandled acting state (happen_all (events_of_signal c.args.signal.now)) (StandsFor c.take.new.self))

pub returns-clause-obeyed : goal.returns-clause-obeyed
returns-clause-obeyed g c = λ state stands.
    let board : SwitchboardValue = c.take.new.self in
    let os : List Outcome = c.as_slice.result.now in
    let done = c.carry_out_noted.ensures.done in
    let noted = signal_noted state c.args.signal.now os board c.requires.noise (c.take.ensures.calls ∙ stands.1)
    (subst (λ (l : List Outcome). IsTold l board.table state.world (events_of_signal c.args.signal.now)) (sym c.as_slice.ensures.value) (c.in-Ok.ensures.told state.world stands.0)) in (
      done.0,
      done.1,
      done.2,
      done.3,
      subst (λ (l : List Said). AreHandled c.carry_out_noted.result acting state l (StandsFor c.carry_out_noted.new.switchboard) done.0 done.1) (sym (happens_one c.args.signal.now c.requires.noise))
          (one_handled state (Happens (Signalled (signal_of c.args.signal.now))) (told_and_parted board.calls os).told noted.0 (StandsFor c.carry_out_noted.new.switchboard) done.0 done.1 c.carry_out_noted.result done.4
          (on_ok c.carry_out_noted.result (λ same. subst (λ (b : SwitchboardValue). StandsFor b (after (bridging state.world state.calls (Happens (Signalled (signal_of c.args.signal.now)))))) (sym same) noted.1) c.carry_out_noted.ensures.noted)),
    )
