use Rattle.std.proofs.Common.{ap, arith}
use Rattle.sg_front.proofs.Batches.{kept_more}
use Rattle.sg_table.specs.declared.arrival.Arrival.{Arrival}
use Rattle.sg_front.proofs.shared.ports_of.Goals as goal

pub loop-k-preserved : goal.loop-k-preserved
loop-k-preserved c =
    kept_more (λ a. a.port) c.args.arrivals.now _ c.loop-k.ports c.loop-k.k c.index-arrivals-k.result c.index-arrivals-k.result.port c.loop-k-test.true
    (omega (arith, c.loop-k-test.true, c.requires)) c.loop-k.invariant (ap (λ (a : Arrival). a.port) c.index-arrivals-k.is)
