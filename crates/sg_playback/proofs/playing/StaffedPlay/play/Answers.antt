use Rattle.std.proofs.Common.{arith, []}
use Rattle.sg_playback.proofs.Common.{added_none, arrived, length-map, wrote_none}
use Rattle.sg_playback.proofs.Lines.{line_by, none_by, on_ok}
use Rattle.sg_playback.proofs.playing.StaffedPlay.play.Goals as goal

pub returns-in-None-clause-few : goal.returns-in-None-clause-few
returns-in-None-clause-few g c = omega (arith, c.requires.stands.1.5, length-map c.args.self.now.player.waits arrived)

pub returns-in-None-clause-played : goal.returns-in-None-clause-played
returns-in-None-clause-played g c = λ s stands. ([], [], added_none _, wrote_none _, none_by _ s _ _ c.in-None.ensures.played stands)

pub returns-in-Some-clause-played : goal.returns-in-Some-clause-played
returns-in-Some-clause-played g c = λ s stands.
    let has = stands.1 _ c.in-Some.line _ _ c.playing.result _ _ _ c.playing.ensures in
    let played = has.played s stands.4 in (
      played.0,
      played.1,
      played.2,
      played.3,
      line_by _ c.in-Some.line s _ played.0 played.1 c.playing.result _ _ _ c.in-Some.ensures.played
          (on_ok c.playing.result _ _ has.rest (λ few t front. (stands.0, stands.1, stands.2, stands.3, front, few))) played.4,
    )
