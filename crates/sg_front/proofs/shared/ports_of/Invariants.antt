use Rattle.std.proofs.Common.{◌≡◌, ◌++◌, drop, map, replicate, take}
use Rattle.sg_front.proofs.shared.ports_of.Given as goal

abbrev pub invariant-loop-k : goal.invariant-loop-k
invariant-loop-k l = l.ports ≡ map (λ a. a.port) (take l.k l.arrivals) ++ drop l.k (replicate 256 0)
