use Rattle.sg_table.proofs.Ticking.{Ticks}
use Rattle.sg_table.proofs.ends.tick_each.Given as goal

abbrev pub invariant-loop-call : goal.invariant-loop-call
invariant-loop-call l = Ticks l.now l.call-index l.fn.calls l.calls
