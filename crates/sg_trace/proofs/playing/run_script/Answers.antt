use Rattle.std.proofs.Common.{◌≡◌, ◌∙◌, Err, ap, false, sym, true}
use Rattle.sg_trace.proofs.Causes.{failed_as}
use Rattle.sg_trace.proofs.Ends.{completes}
use Rattle.sg_trace.proofs.PassedOn.{before_kept, ended_passed, loop_passed, noise_passed, passed_so, read_passed, write_passed}
use Rattle.sg_trace.proofs.Runs.{err_so, read_so}
use Rattle.sg_trace.proofs.playing.run_script.Goals as goal

-- no line is the last
pub unreachable-requires : goal.unreachable-requires
unreachable-requires g c =
    let behind = (c.in-Ok.ensures.ran c.requires.stands.0 c.requires.stands.1).3 in
    let last : false ≡ true = sym (c.requires.lines behind.last) ∙ behind.is_last in cc

pub returns-clause-ran : goal.returns-clause-ran
returns-clause-ran g c = λ begun stood.
    let ran = c.in-Err.ensures.ran begun stood in
    let status = passed_so c.in-Err.status c.passed_on.result g.K.Sink.faults g.K.Sink.failed _ _ c.passed_on.ensures.passed in (
      ran.0,
      ran.1,
      ran.2,
      record {
        took = ran.3.took;
        drew = ran.3.drew;
        wrote = before_kept _ _ _ ran.2 c.passed_on.ensures.kept ran.3.wrote;
        ends = loop_passed _ _ g.P.Play.batch ran.0 ran.1 ran.2 c.in-Err.status c.passed_on.result _ status ran.3.ends;
        at_once = ran.3.at_once;
        unended = λ is. ran.3.unended (read_so c.in-Err.status c.passed_on.result status is);
        bound = ran.3.bound;
      },
    )

pub returns-clause-read : goal.returns-clause-read
returns-clause-read g c = ended_passed c.in-Err.status c.passed_on.result g.K.Sink.faults g.K.Sink.failed _ _ c.passed_on.ensures.passed _ _ _ c.in-Err.ensures.read

pub returns-clause-prompt : goal.returns-clause-prompt
returns-clause-prompt g c = λ prompt. read_passed c.in-Err.status c.passed_on.result g.K.Sink.faults g.K.Sink.failed _ _ c.passed_on.ensures.passed _ _ _ (c.in-Err.ensures.prompt prompt)

pub returns-clause-write : goal.returns-clause-write
returns-clause-write g c =
    write_passed c.in-Err.status c.passed_on.result g.K.Sink.faults g.K.Sink.failed _ _ c.passed_on.ensures.passed _ (failed_as _ _ _ _ _ (λ is. ap Err is) (λ is. err_so _ _ is) c.in-Err.ensures.write)

pub returns-clause-noise : goal.returns-clause-noise
returns-clause-noise g c =
    noise_passed c.in-Err.status c.passed_on.result g.K.Sink.faults g.K.Sink.failed _ _ c.passed_on.ensures.passed _ _ _ (failed_as _ _ _ _ _ (λ is. ap Err is) (λ is. err_so _ _ is) c.in-Err.ensures.noise)

pub returns-clause-complete : goal.returns-clause-complete
returns-clause-complete g c = λ source sink noise all rest told told' none.
    let ran = returns-clause-ran g c c.requires.stands.0 c.requires.stands.1 in
    completes _ _ g.P.Play.batch ran.0 ran.1 ran.2 _ _ ran.3.took c.passed_on.result ran.3.ends
    (λ is. source ((returns-clause-read g c).rose is)) (λ is. sink ((returns-clause-write g c).rose is)) (λ is. noise ((returns-clause-noise g c).rose is)) all rest told told' (none ran.1)
