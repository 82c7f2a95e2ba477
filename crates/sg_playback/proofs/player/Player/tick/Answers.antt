use Rattle.std.proofs.Common.{[], ◌∷◌, ◌++◌}
use Rattle.sg_playback.proofs.Common.{FrontStandsFor, Signalled, Tick, state_after, waiting, wrote_more}
use Rattle.sg_playback.proofs.Plays.{room_cut, ticked}
use Rattle.sg_playback.proofs.player.Player.tick.Goals as goal

pub returns-in-Err-clause-ticked : goal.returns-in-Err-clause-ticked
returns-in-Err-clause-ticked g c = λ state stands.
    let s = c.in-Err.ensures.settled state stands in
    (s.0, s.1, room_cut c.in-Err.status state (waiting c.args.self.now) (Signalled (Tick c.args.now) ∷ []) (FrontStandsFor c.settle.new.self.front) s.0 (s.2.0, s.2.1))

pub returns-clause-ticked : goal.returns-clause-ticked
returns-clause-ticked g c = λ state stands.
    let s = c.in-Ok.ensures.settled state stands in
    let t = c.step.ensures.stepped (state_after state (waiting c.args.self.now)) s.2.2 in (
      s.0 ++ t.0,
      wrote_more _ _ _ s.0 t.0 s.1 t.1,
      ticked c.step.result state (waiting c.args.self.now) (Signalled (Tick c.args.now) ∷ []) (FrontStandsFor c.step.new.self.front) s.0 t.0 s.2.0 t.2,
    )
