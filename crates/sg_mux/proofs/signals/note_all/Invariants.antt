use Rattle.std.proofs.Common.{◌≡◌, drop}
use Rattle.sg_mux.specs.Muxed.{noted_all}
use Rattle.sg_mux.proofs.signals.note_all.Given as goal

abbrev pub invariant-loop-outcome : goal.invariant-loop-outcome
invariant-loop-outcome l = noted_all l.marks l.calls (drop l.outcome-index l.outcomes) ≡ noted_all l.marks l.fn.calls l.outcomes
