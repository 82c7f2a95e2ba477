use Rattle.std.proofs.Common.{take, ◌≡◌}
use Rattle.sg_pairs.specs.Bridged.{told_and_parted}
use Rattle.sg_bridge.proofs.Steps.{lines}
use Rattle.sg_edge.specs.Told.{Wrote}
use Rattle.sg_bridge.proofs.telling.tell_all.Given as goal

abbrev pub invariant-loop-outcome : goal.invariant-loop-outcome
invariant-loop-outcome g l =
    Wrote (g.K.Sink.written l.fn.sink) (g.K.Sink.written l.sink) (lines (told_and_parted l.fn.switchboard.calls (take l.outcome-index l.outcomes)).told)
    × (l.switchboard ≡ record l.fn.switchboard { calls = (told_and_parted l.fn.switchboard.calls (take l.outcome-index l.outcomes)).calls }) × (g.K.Sink.faults l.sink ≡ g.K.Sink.faults l.fn.sink)
