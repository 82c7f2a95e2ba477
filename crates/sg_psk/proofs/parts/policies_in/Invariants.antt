use Rattle.std.proofs.Common.{◌≡◌, ◌++◌, length}
use Rattle.sg_psk.specs.Parts.{policies_in}
use Rattle.sg_psk.proofs.parts.policies_in.Given as goal

abbrev pub invariant-loop-rest : goal.invariant-loop-rest
invariant-loop-rest l = l.policies ++ policies_in l.rest ≡ policies_in l.payloads

abbrev pub decreases-loop-rest : goal.decreases-loop-rest
decreases-loop-rest l = length l.rest
