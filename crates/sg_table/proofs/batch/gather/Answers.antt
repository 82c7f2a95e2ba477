use Rattle.std.proofs.Common.{◌∙◌, ap, get_or, refl}
use Rattle.sg_table.proofs.Gathering.{shapes_popped, will_gather_first, will_gather_next}
use Rattle.sg_table.specs.Values.{shapes_of}
use Rattle.sg_table.proofs.batch.gather.Goals as goal

pub loop-arrival-preserved : goal.loop-arrival-preserved
loop-arrival-preserved c = (
  ap shapes_of c.take_back.ensures.calls ∙ shapes_popped (get_or c.loop-arrival.arrivals c.loop-arrival.arrival-index c.arrival-item.result).port c.loop-arrival.calls ∙ c.loop-arrival.invariant.0,
  will_gather_next c.args.arrivals.now c.args.calls.now c.loop-arrival.arrival-index c.loop-arrival.arrivals c.loop-arrival.calls c.take_back.new.calls c.arrival-item.result c.take_back.new.arrival
      c.loop-arrival-test.true c.loop-arrival.invariant.0 c.take_back.ensures.calls c.take_back.ensures.arrival c.loop-arrival.invariant.1,
)

pub loop-arrival-init : goal.loop-arrival-init
loop-arrival-init c = (refl, will_gather_first c.args.arrivals.now c.args.calls.now)
