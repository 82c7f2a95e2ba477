use Rattle.std.proofs.Common.{◌≡◌, [], Err, ap, false, true}
use Rattle.sg_playback.proofs.Common.{before_kept, ended_passed, failed_as, loop_passed, noise_passed, of_replay, passed_so, start, text_from, write_passed}
use Rattle.sg_playback.proofs.Completes.{complete, untouched}
use Rattle.sg_playback.proofs.Lines.{err_so}
use Rattle.sg_playback.proofs.Replays.{ends_so}
use Rattle.sg_playback.proofs.replaying.replay.Goals as goal

pub returns-in-Err-clause-ran : goal.returns-in-Err-clause-ran
returns-in-Err-clause-ran g c = ([], [], [], untouched c.args.muxes _)

pub play_lines-requires-clause-front : goal.play_lines-requires-clause-front
play_lines-requires-clause-front g c = λ bounds outlives. (start c.args.muxes, c.in-Ok.ensures.0)

-- no line is the last
pub unreachable-requires : goal.unreachable-requires
unreachable-requires g c = let last : false ≡ true = (c.in-Ok-play_lines.ensures.ran (start c.args.muxes) c.in-Ok.ensures.0).3.0.is_last in cc

pub returns-in-Err-play_lines-clause-ran : goal.returns-in-Err-play_lines-clause-ran
returns-in-Err-play_lines-clause-ran g c =
    let ran = c.in-Err-play_lines.ensures.ran (start c.args.muxes) c.in-Ok.ensures.0 in
    let left = g.S.Source.left c.play_lines.new.source in
    let status = passed_so c.in-Err-play_lines.status c.passed_on.result g.K.Sink.faults g.K.Sink.failed _ _ c.passed_on.ensures.passed in (
      ran.0,
      ran.1,
      ran.2,
      record {
        took = ran.3.took;
        drew = ran.3.drew;
        wrote = before_kept _ _ _ ran.2 c.passed_on.ensures.kept ran.3.wrote;
        ends =
            ends_so c.args.muxes c.passed_on.result ran.0 ran.1 ran.2 left
            (loop_passed of_replay (text_from (start c.args.muxes)) 258 ran.0 ran.1 ran.2 c.in-Err-play_lines.status c.passed_on.result left status ran.3.ends);
        bound = ran.3.bound;
      },
    )

pub returns-in-Err-play_lines-clause-read : goal.returns-in-Err-play_lines-clause-read
returns-in-Err-play_lines-clause-read g c = ended_passed c.in-Err-play_lines.status c.passed_on.result g.K.Sink.faults g.K.Sink.failed _ _ c.passed_on.ensures.passed _ _ _ c.in-Err-play_lines.ensures.read

pub returns-in-Err-play_lines-clause-write : goal.returns-in-Err-play_lines-clause-write
returns-in-Err-play_lines-clause-write g c =
    write_passed c.in-Err-play_lines.status c.passed_on.result g.K.Sink.faults g.K.Sink.failed _ _ c.passed_on.ensures.passed _ (failed_as _ _ _ _ _ (λ is. ap Err is) (λ is. err_so _ _ is) c.in-Err-play_lines.ensures.write)

pub returns-in-Err-play_lines-clause-noise : goal.returns-in-Err-play_lines-clause-noise
returns-in-Err-play_lines-clause-noise g c =
    noise_passed c.in-Err-play_lines.status c.passed_on.result g.K.Sink.faults g.K.Sink.failed _ _ c.passed_on.ensures.passed _ _ _ (failed_as _ _ _ _ _ (λ is. ap Err is) (λ is. err_so _ _ is) c.in-Err-play_lines.ensures.noise)

pub returns-in-Err-play_lines-clause-complete : goal.returns-in-Err-play_lines-clause-complete
returns-in-Err-play_lines-clause-complete g c = λ source sink noise.
    let ran = (returns-in-Err-play_lines-clause-ran g c) in
    complete c.args.muxes c.passed_on.result _ _ ran.0 ran.1 ran.2 ran.3
    (λ is. source ((returns-in-Err-play_lines-clause-read g c).rose is)) (λ is. sink ((returns-in-Err-play_lines-clause-write g c).rose is)) (λ is. noise ((returns-in-Err-play_lines-clause-noise g c).rose is))
