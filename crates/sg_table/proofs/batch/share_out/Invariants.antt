use Rattle.sg_table.proofs.Outing.{Shares}
use Rattle.sg_table.proofs.batch.share_out.Given as goal

abbrev pub invariant-loop-k : goal.invariant-loop-k
invariant-loop-k l = Shares l.now l.fn.arrivals l.fn.calls l.k l.arrivals l.calls
