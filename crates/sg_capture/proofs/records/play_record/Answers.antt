use Rattle.std.proofs.Common.{◌++◌, ℕ, map, Err, subst}
use Rattle.sg_capture.proofs.Common.{Happens, IsMet, StandsFor, captured_events, frame_occurs, frame_of, ticks_at, waiting, world_after, wrote_more}
use Rattle.sg_capture.proofs.Meets.{met_before, met_then}
use Rattle.sg_capture.proofs.records.play_record.Goals as goal

pub returns-in-Err-clause-met : goal.returns-in-Err-clause-met
returns-in-Err-clause-met g c = λ w stands.
    let t = c.in-Err.ensures.met w stands in
    let after = waiting c.come_to.new.player in
    let stands_for = StandsFor c.come_to.new.player.front in (
      t.0,
      t.1,
      subst (λ (m : ℕ). IsMet (Err c.in-Err.status) w (waiting c.args.player.now) after (map Happens (ticks_at c.args.progress.top m) ++ frame_occurs c.args.progress.number (frame_of c.args.frame.now)) stands_for t.0) c.moment_of-moment.ensures.is
          (met_before c.in-Err.status w (waiting c.args.player.now) after after (map Happens (ticks_at c.args.progress.top c.moment_of-moment.result)) (frame_occurs c.args.progress.number (frame_of c.args.frame.now)) stands_for stands_for t.0 t.2),
    )

pub returns-clause-met : goal.returns-clause-met
returns-clause-met g c = λ w stands.
    let t = c.in-Ok.ensures.met w stands in
    let u = c.play_frame.ensures.met (world_after w (captured_events t.2.told)) t.2.stands in (
      t.0 ++ u.0,
      wrote_more _ _ _ t.0 u.0 t.1 u.1,
      subst (λ (m : ℕ). IsMet c.play_frame.result w (waiting c.args.player.now) (waiting c.play_frame.new.player) (map Happens (ticks_at c.args.progress.top m) ++ frame_occurs c.args.progress.number (frame_of c.args.frame.now)) (StandsFor c.play_frame.new.player.front) (t.0 ++ u.0))
          c.moment_of-moment.ensures.is
          (met_then c.play_frame.result w (waiting c.args.player.now) (waiting c.come_to.new.player) (waiting c.play_frame.new.player) (map Happens (ticks_at c.args.progress.top c.moment_of-moment.result)) (frame_occurs c.args.progress.number (frame_of c.args.frame.now))
          (StandsFor c.come_to.new.player.front) (StandsFor c.play_frame.new.player.front) t.0 u.0 t.2 u.2),
    )
