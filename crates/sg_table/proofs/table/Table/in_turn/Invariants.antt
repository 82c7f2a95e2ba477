use Rattle.sg_table.proofs.InTurn.{AreDone}
use Rattle.sg_table.proofs.table.Table.in_turn.Given as goal

abbrev pub invariant-loop-arrival : goal.invariant-loop-arrival
invariant-loop-arrival l = AreDone l.fn.arrivals l.fn.self l.arrival-index l.arrivals l.self
