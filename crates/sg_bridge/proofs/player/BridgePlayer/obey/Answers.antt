use Rattle.std.proofs.Common.{List, sym, subst, ◌∙◌}
use Rattle.sg_bridge.proofs.Steps.{signal_done}
use Rattle.sg_gateway.specs.Events.{events_of_signal}
use Rattle.sg_outcome.specs.declared.outcomes.Outcome.{Outcome}
use Rattle.sg_switchboard.specs.Switching.{StandsFor, SwitchboardValue}
use Rattle.sg_table.specs.Telling.{IsTold}
use Rattle.sg_bridge.proofs.player.BridgePlayer.obey.Goals as goal

pub returns-clause-obeyed : goal.returns-clause-obeyed
returns-clause-obeyed g c = λ s stands.
    let before = subst (λ (v : SwitchboardValue). StandsFor v s) (sym c.self.view_is) stands in
    let told = subst (λ (os : List Outcome). IsTold os c.take.new.self.table s.world (events_of_signal c.args.signal.now)) (sym c.as_slice.ensures.value) (c.in-Ok.ensures.told s.world before.0) in
    signal_done c.tell_all.result s c.args.signal.now c.as_slice.result.now c.take.new.self c.tell_all.new.switchboard _ _ c.requires.ready (c.take.ensures.calls ∙ before.1) told c.tell_all.ensures.noted c.tell_all.ensures.told
