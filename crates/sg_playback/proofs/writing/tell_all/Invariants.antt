use Rattle.std.proofs.Common.{take, ◌≡◌, flat_map}
use Rattle.sg_playback.proofs.Common.{Wrote, outcome_line}
use Rattle.sg_playback.proofs.writing.tell_all.Given as goal

abbrev pub invariant-loop-outcome : goal.invariant-loop-outcome
invariant-loop-outcome g l =
    Wrote (g.K.Sink.written l.fn.sink) (g.K.Sink.written l.sink) (flat_map outcome_line (take l.outcome-index l.outcomes)) × (g.K.Sink.faults l.sink ≡ g.K.Sink.faults l.fn.sink)
