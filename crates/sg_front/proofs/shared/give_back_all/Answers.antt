use Rattle.std.proofs.Common.{arith}
use Rattle.sg_front.proofs.Batches.{given_more}
use Rattle.sg_front.proofs.shared.give_back_all.Goals as goal

pub loop-k-preserved : goal.loop-k-preserved
loop-k-preserved c =
    given_more c.args.mux.now c.args.ports.now c.args.arrivals.now c.loop-k.arrivals c.loop-k.k 0 c.index-arrivals-k.result c.give_back.new.arrival c.loop-k-test.true
    (omega (arith, c.loop-k-test.true, c.requires)) c.loop-k.invariant c.give_back.ensures
