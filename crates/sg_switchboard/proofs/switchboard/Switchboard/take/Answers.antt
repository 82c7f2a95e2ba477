use Rattle.std.proofs.Common.{OnErr, subst}
use Rattle.sg_gateway.specs.Early.{MayWant}
use Rattle.sg_gateway.specs.Events.{signal_of}
use Rattle.sg_gateway.specs.World.{World}
use Rattle.sg_switchboard.specs.Switching.{SwitchboardValue}
use Rattle.sg_table.specs.Standing.{TableStandsFor}
use Rattle.sg_switchboard.proofs.switchboard.Switchboard.take.Goals as goal

pub returns-clause-needs : goal.returns-clause-needs
returns-clause-needs c =
    subst (λ (v : SwitchboardValue). OnErr c.take.result ((w : World) → TableStandsFor v.table w → MayWant w (signal_of c.args.signal.now))) c.self.view_is c.take.ensures.needs
