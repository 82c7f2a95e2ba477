use Rattle.std.proofs.Common.{◌≡◌, ◌++◌, drop}
use Rattle.sg_leg.proofs.answering.lines_in.Given as goal

abbrev pub invariant-loop-line : goal.invariant-loop-line
invariant-loop-line l = l.lines ++ drop l.line-index l.line-items ≡ l.line-items
