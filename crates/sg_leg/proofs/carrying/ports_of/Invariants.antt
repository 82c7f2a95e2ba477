use Rattle.std.proofs.Common.{◌≡◌, ◌++◌, drop, length}
use Rattle.sg_agreement.specs.CarriedTexts.{ports_from}
use Rattle.sg_leg.proofs.carrying.ports_of.Given as goal

abbrev pub invariant-loop-m : goal.invariant-loop-m
invariant-loop-m l = (l.ports.items ++ ports_from l.slot l.m l.side (drop l.m l.active) ≡ ports_from l.slot 0 l.side l.active) × (length l.ports.items ≡ l.m)
