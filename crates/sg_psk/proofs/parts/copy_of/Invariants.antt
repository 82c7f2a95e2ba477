use Rattle.std.proofs.Common.{◌≡◌, ◌++◌, length}
use Rattle.sg_psk.proofs.parts.copy_of.Given as goal

abbrev pub invariant-loop-rest : goal.invariant-loop-rest
invariant-loop-rest l = l.items ++ l.rest ≡ l.policy.items

abbrev pub decreases-loop-rest : goal.decreases-loop-rest
decreases-loop-rest l = length l.rest
