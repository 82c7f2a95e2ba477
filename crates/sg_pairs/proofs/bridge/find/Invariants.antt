use Rattle.std.proofs.Common.{◌≡◌, drop}
use Rattle.sg_pairs.specs.Pairs.{found_from}
use Rattle.sg_pairs.proofs.bridge.find.Given as goal

abbrev pub invariant-loop-slot : goal.invariant-loop-slot
invariant-loop-slot l = found_from l.slot l.id (drop l.slot l.calls) ≡ found_from 0 l.id l.calls
