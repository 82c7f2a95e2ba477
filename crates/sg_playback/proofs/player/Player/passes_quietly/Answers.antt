use Rattle.std.proofs.Common.{[], sym, subst}
use Rattle.sg_playback.proofs.Common.{FrontStandsFor, IsTold, Playing, events_of_signal}
use Rattle.sg_playback.proofs.player.Player.passes_quietly.Goals as goal

pub returns-in-Tick-clause-told : goal.returns-in-Tick-clause-told
returns-in-Tick-clause-told c = λ yes state stands.
    subst (λ s. IsTold [] c.tick_quietly.new.self state (events_of_signal s)) (sym c.in-Tick.is)
    (c.tick_quietly.ensures.told yes state (subst (λ (v : Playing). FrontStandsFor v.front state) (sym c.self.view_is) stands))
