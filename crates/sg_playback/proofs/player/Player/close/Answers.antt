use Rattle.std.proofs.Common.{refl, inl, inr}
use Rattle.sg_playback.proofs.player.Player.close.Goals as goal

pub returns-in-Err-clause-closed : goal.returns-in-Err-clause-closed
returns-in-Err-clause-closed g c = λ state stands.
    let s = c.in-Err.ensures.settled state stands in
    (s.0, s.1, inr s.2)

pub returns-in-Ok-clause-closed : goal.returns-in-Ok-clause-closed
returns-in-Ok-clause-closed g c = λ state stands.
    let s = c.in-Ok.ensures.settled state stands in
    (s.0, s.1, inl (refl, s.2.0))
