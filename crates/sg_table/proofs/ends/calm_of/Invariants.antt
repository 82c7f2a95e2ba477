use Rattle.sg_table.proofs.Calming.{CalmSoFar}
use Rattle.sg_table.proofs.ends.calm_of.Given as goal

abbrev pub invariant-loop-each : goal.invariant-loop-each
invariant-loop-each l = CalmSoFar l.calm l.last l.each-index l.calls
