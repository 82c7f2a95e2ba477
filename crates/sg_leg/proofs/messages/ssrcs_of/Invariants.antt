use Rattle.std.proofs.Common.{◌≡◌, ◌++◌, ◌≤◌, drop, length}
use Rattle.sg_agreement.specs.Attributes.{ssrcs_of}
use Rattle.sg_leg.proofs.messages.ssrcs_of.Given as goal

abbrev pub invariant-loop-medium : goal.invariant-loop-medium
invariant-loop-medium l = (l.ssrcs.items ++ ssrcs_of l.side (drop l.medium-index l.media) ≡ ssrcs_of l.side l.media) × (length l.ssrcs.items ≤ l.medium-index)
