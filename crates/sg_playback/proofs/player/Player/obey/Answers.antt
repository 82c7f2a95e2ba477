use Rattle.std.proofs.Common.{◌∙◌, [], ◌++◌, map, refl, ap}
use Rattle.sg_lines.specs.declared.lines.Line.TheVariants as lines
use Rattle.sg_playback.proofs.Common.{FrontStandsFor, added_none, arrived, not_failed, ok_not, state_after, waiting, wrote_more}
use Rattle.sg_playback.proofs.Lines.{few_waiting}
use Rattle.sg_playback.proofs.Plays.{cut_before, only_not, played_cut, signal_played, unsupplied, want_not}
use Rattle.sg_playback.proofs.player.Player.obey.Goals as goal

pub returns-in-Err-clause-played : goal.returns-in-Err-clause-played
returns-in-Err-clause-played g c = λ state stands.
    let s = c.in-Err.ensures.settled state stands in (
      [],
      s.0,
      added_none _,
      s.1,
      played_cut c.in-Err.status (lines.Signal c.args.signal) state (waiting c.args.self.now) (waiting c.settle.new.self) (FrontStandsFor c.settle.new.self.front) [] s.0 s.2.0
          (cut_before (lines.Signal c.args.signal) state (waiting c.args.self.now) s.0 (few_waiting c.args.self.now c.in-Err.ensures.few) s.2.1),
    )

pub returns-in-Err-clause-noise : goal.returns-in-Err-clause-noise
returns-in-Err-clause-noise g c = not_failed _ _ _ _ refl (want_not c.in-Err.status c.in-Err.ensures.only)

pub returns-in-Err-supply-clause-played : goal.returns-in-Err-supply-clause-played
returns-in-Err-supply-clause-played g c = λ state stands.
    let s = c.in-Ok.ensures.settled state stands in
    let d = c.in-Err-supply.ensures.drew in (
      d.0,
      s.0,
      d.1,
      s.1,
      unsupplied c.in-Err-supply.status c.args.signal state (waiting c.args.self.now) (waiting c.settle.new.self) (FrontStandsFor c.settle.new.self.front) d.0 s.0 d.2 s.2.0,
    )

pub returns-in-Ok-supply-clause-played : goal.returns-in-Ok-supply-clause-played
returns-in-Ok-supply-clause-played g c = λ state stands.
    let s = c.in-Ok.ensures.settled state stands in
    let d = c.in-Ok-supply.ensures.drew in
    let t = c.step.ensures.stepped (state_after state (waiting c.args.self.now)) s.2.2 in (
      d.0,
      s.0 ++ t.0,
      d.1,
      wrote_more _ _ _ s.0 t.0 s.1 t.1,
      signal_played c.step.result c.args.signal c.in-Ok-supply.supplied d.0 d.2 state (waiting c.args.self.now) (waiting c.step.new.self) (FrontStandsFor c.step.new.self.front) s.0 t.0
          (few_waiting c.args.self.now c.in-Ok.ensures.few) (ap (map arrived) c.step.ensures.waits ∙ s.2.1) s.2.0 t.2,
    )

pub returns-in-Ok-supply-clause-noise : goal.returns-in-Ok-supply-clause-noise
returns-in-Ok-supply-clause-noise g c = not_failed _ _ _ _ (c.in-Ok-supply.ensures.cause.quiet (λ is. ok_not _ _ is)) (only_not c.step.result c.step.ensures.only)
