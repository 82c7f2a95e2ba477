use Rattle.std.proofs.Common.{◌≤◌, ◌*◌, drop, length}
use Rattle.sg_leg.specs.Planned.{planned}
use Rattle.sg_leg.proofs.Planning.{WillBePlanned}
use Rattle.sg_leg.proofs.offered.specs_of.Given as goal

abbrev pub invariant-loop-m : goal.invariant-loop-m
invariant-loop-m l = WillBePlanned l.m l.first l.media (planned l.specs.items) l.count (drop l.m l.media) × (length l.specs.items ≤ l.m) × (l.count ≤ 16 * l.m)
