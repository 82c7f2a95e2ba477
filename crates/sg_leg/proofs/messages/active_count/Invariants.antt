use Rattle.std.proofs.Common.{◌≡◌, ◌+◌, ◌≤◌, drop}
use Rattle.sg_agreement.specs.Sides.{active_count}
use Rattle.sg_leg.proofs.messages.active_count.Given as goal

abbrev pub invariant-loop-medium : goal.invariant-loop-medium
invariant-loop-medium l = (l.count + active_count l.side (drop l.medium-index l.media) ≡ active_count l.side l.media) × (l.count ≤ l.medium-index)
