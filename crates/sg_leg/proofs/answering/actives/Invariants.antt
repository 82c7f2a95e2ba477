use Rattle.std.proofs.Common.{◌≡◌, ◌++◌, map, drop, length}
use Rattle.sg_agreement.specs.Sides.{is_active}
use Rattle.sg_leg.proofs.answering.actives.Given as goal

abbrev pub invariant-loop-medium : goal.invariant-loop-medium
invariant-loop-medium l = (l.active.items ++ map (is_active l.side) (drop l.medium-index l.media) ≡ map (is_active l.side) l.media) × (length l.active.items ≡ l.medium-index)
