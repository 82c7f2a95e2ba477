use Rattle.std.proofs.Common.{◌≡◌, ◌++◌, drop, length}
use Rattle.sg_agreement.specs.Sides.{actives_after}
use Rattle.sg_leg.proofs.answering.actives_after.Given as goal

abbrev pub invariant-loop-m : goal.invariant-loop-m
invariant-loop-m l = (l.active.items ++ actives_after l.side (drop l.m l.offered) (drop l.m l.answered) ≡ actives_after l.side l.offered l.answered) × (length l.active.items ≡ l.m)
