use Rattle.std.proofs.Common.{◌≡◌, ◌++◌, drop, take}
use Rattle.sg_front.specs.Parts.{all_given_back}
use Rattle.sg_front.proofs.shared.give_back_all.Given as goal

abbrev pub invariant-loop-k : goal.invariant-loop-k
invariant-loop-k l = l.arrivals ≡ all_given_back l.mux l.ports (take l.k l.fn.arrivals) ++ drop l.k l.fn.arrivals
