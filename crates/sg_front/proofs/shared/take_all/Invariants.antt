use Rattle.std.proofs.Common.{◌≡◌, ◌++◌, drop, map, take}
use Rattle.sg_front.specs.Parts.{taken}
use Rattle.sg_front.proofs.shared.take_all.Given as goal

abbrev pub invariant-loop-arrival : goal.invariant-loop-arrival
invariant-loop-arrival l = l.arrival-items ≡ map (taken l.mux) (take l.arrival-index l.initial.arrival-items) ++ drop l.arrival-index l.initial.arrival-items
