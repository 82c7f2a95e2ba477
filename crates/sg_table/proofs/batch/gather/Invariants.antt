use Rattle.std.proofs.Common.{◌≡◌}
use Rattle.sg_table.proofs.Gathering.{WillGather}
use Rattle.sg_table.specs.Values.{shapes_of}
use Rattle.sg_table.proofs.batch.gather.Given as goal

abbrev pub invariant-loop-arrival : goal.invariant-loop-arrival
invariant-loop-arrival l = (shapes_of l.calls ≡ shapes_of l.fn.calls) × WillGather l.fn.arrivals l.fn.calls l.arrival-index l.arrivals l.calls
