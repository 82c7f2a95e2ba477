use Rattle.sg_table.proofs.Indexed.{AreWritten}
use Rattle.sg_table.specs.Values.{shapes_of}
use Rattle.sg_table.proofs.calls.Calls.index.Given as goal

abbrev pub invariant-loop-i : goal.invariant-loop-i
invariant-loop-i l = AreWritten l.places l.i (shapes_of l.self.calls)
