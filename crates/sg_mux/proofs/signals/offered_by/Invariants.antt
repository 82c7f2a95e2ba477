use Rattle.std.proofs.Common.{◌≡◌, drop}
use Rattle.sg_mux.specs.Muxed.{offered_by}
use Rattle.sg_mux.proofs.signals.offered_by.Given as goal

abbrev pub invariant-loop-known : goal.invariant-loop-known
invariant-loop-known l = offered_by l.id (drop l.known-index l.calls) ≡ offered_by l.id l.calls
