use Rattle.std.proofs.Common.{◌≡◌, drop}
use Rattle.sg_table.specs.Free.{free_shape}
use Rattle.sg_table.specs.Values.{shapes_of}
use Rattle.sg_table.proofs.places.lowest.Given as goal

abbrev pub invariant-loop-i : goal.invariant-loop-i
invariant-loop-i l = free_shape l.i (shapes_of (drop l.i l.calls)) ≡ free_shape 0 (shapes_of l.calls)
