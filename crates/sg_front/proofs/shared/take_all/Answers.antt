use Rattle.sg_front.specs.Parts.{taken}
use Rattle.sg_mux.proofs.Loops.{fills}
use Rattle.sg_front.proofs.shared.take_all.Goals as goal

pub loop-arrival-preserved : goal.loop-arrival-preserved
loop-arrival-preserved c =
    fills (taken c.args.mux.now) c.args.arrivals.now c.loop-arrival.arrival-items c.loop-arrival.arrival-index c.arrival-item.result c.take.new.arrival c.loop-arrival-test.true c.loop-arrival.invariant c.take.ensures
