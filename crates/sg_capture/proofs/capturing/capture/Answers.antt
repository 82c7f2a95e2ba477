use Rattle.std.proofs.Common.{[]}
use Rattle.sg_capture.proofs.Compositions.{capture_passed, complete, untouched}
use Rattle.sg_trace.proofs.PassedOn.{before_kept, ended_passed, noise_passed, passed_so, write_passed}
use Rattle.sg_capture.proofs.capturing.capture.Goals as goal

pub returns-in-Err-clause-ran : goal.returns-in-Err-clause-ran
returns-in-Err-clause-ran g c = ([], [], [], untouched _)

pub returns-in-Ok-clause-ran : goal.returns-in-Ok-clause-ran
returns-in-Ok-clause-ran g c =
    let ran = c.play_source-end.ensures.ran in
    let status = passed_so c.play_source-end.result c.passed_on.result g.K.Sink.faults g.K.Sink.failed _ _ c.passed_on.ensures.passed in (
      ran.0,
      ran.1,
      ran.2,
      record {
        took = ran.3.took;
        drew = ran.3.drew;
        wrote = before_kept _ _ _ ran.2 c.passed_on.ensures.kept ran.3.wrote;
        ends = capture_passed ran.0 ran.1 ran.2 c.play_source-end.result c.passed_on.result _ status ran.3.ends;
        bound = ran.3.bound;
      },
    )

pub returns-in-Ok-clause-read : goal.returns-in-Ok-clause-read
returns-in-Ok-clause-read g c = ended_passed c.play_source-end.result c.passed_on.result g.K.Sink.faults g.K.Sink.failed _ _ c.passed_on.ensures.passed _ _ _ c.play_source-end.ensures.read

pub returns-in-Ok-clause-write : goal.returns-in-Ok-clause-write
returns-in-Ok-clause-write g c = write_passed c.play_source-end.result c.passed_on.result g.K.Sink.faults g.K.Sink.failed _ _ c.passed_on.ensures.passed _ c.play_source-end.ensures.write

pub returns-in-Ok-clause-noise : goal.returns-in-Ok-clause-noise
returns-in-Ok-clause-noise g c = noise_passed c.play_source-end.result c.passed_on.result g.K.Sink.faults g.K.Sink.failed _ _ c.passed_on.ensures.passed _ _ _ c.play_source-end.ensures.noise

pub returns-in-Ok-clause-complete : goal.returns-in-Ok-clause-complete
returns-in-Ok-clause-complete g c = λ source sink noise.
    let ran = (returns-in-Ok-clause-ran g c) in
    complete c.passed_on.result _ _ ran.0 ran.1 ran.2 ran.3
    (λ is. source ((returns-in-Ok-clause-read g c).rose is)) (λ is. sink ((returns-in-Ok-clause-write g c).rose is)) (λ is. noise ((returns-in-Ok-clause-noise g c).rose is))
