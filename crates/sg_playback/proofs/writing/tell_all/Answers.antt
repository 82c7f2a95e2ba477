use Rattle.std.proofs.Common.{◌≡◌, ◌∙◌, take, subst, ap, take_all, flat_map}
use Rattle.sg_playback.proofs.Common.{Wrote, failed_now, outcome_line}
use Rattle.sg_playback.proofs.Tells.{more_written, part_written}
use Rattle.sg_playback.proofs.writing.tell_all.Goals as goal

pub returns-in-Err-clause-told : goal.returns-in-Err-clause-told
returns-in-Err-clause-told g c =
    part_written outcome_line c.args.outcomes.now c.loop-outcome.outcome-index c.outcome-item.result c.loop-outcome-test.true c.outcome-item.is _ _ _ c.loop-outcome.invariant.0 c.in-Err.status c.in-Err.ensures.told

pub returns-in-Err-clause-write : goal.returns-in-Err-clause-write
returns-in-Err-clause-write g c = failed_now _ _ _ _ _ c.loop-outcome.invariant.1 c.in-Err.ensures.cause

pub returns-clause-told : goal.returns-clause-told
returns-clause-told g c =
    let all : take c.loop-outcome.outcome-index c.args.outcomes.now ≡ c.args.outcomes.now = take_all c.loop-outcome.outcome-index c.args.outcomes.now c.loop-outcome-test.false in
    subst (Wrote (g.K.Sink.written c.args.sink.now) (g.K.Sink.written c.loop-outcome.sink)) (ap (flat_map outcome_line) all) c.loop-outcome.invariant.0

pub loop-outcome-preserved : goal.loop-outcome-preserved
loop-outcome-preserved g c = (
  more_written outcome_line c.args.outcomes.now c.loop-outcome.outcome-index c.outcome-item.result c.loop-outcome-test.true c.outcome-item.is _ _ _ c.loop-outcome.invariant.0 c.in-Ok.ensures.told,
  c.in-Ok.ensures.cause.quiet (λ is. cc) ∙ c.loop-outcome.invariant.1,
)
