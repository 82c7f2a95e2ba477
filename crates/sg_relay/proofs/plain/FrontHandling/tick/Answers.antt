use Rattle.std.proofs.Common.{List, [], map, subst, refl}
use Rattle.sg_relay.proofs.Common.{IsDone, Outcome, act_of, called_none, wrote_none}
use Rattle.sg_relay.proofs.Deeds.{done_none}
use Rattle.sg_relay.proofs.plain.FrontHandling.tick.Goals as goal

pub returns-then-tick_quietly-clause-ticked : goal.returns-then-tick_quietly-clause-ticked
returns-then-tick_quietly-clause-ticked g c = λ state stands.
    let told = c.tick_quietly.ensures.told c.if-tick_quietly.true state stands in
    ([], [], called_none _, wrote_none _, (subst (λ (os : List Outcome). IsDone (map act_of os) [] []) told.0 done_none, tt, refl, told.1))
