use Rattle.std.proofs.Common.{◌≡◌, length}
use Rattle.sg_psk.specs.Parts.{names_in}
use Rattle.sg_psk.proofs.parts.next_name.Given as goal

abbrev pub invariant-loop-rest : goal.invariant-loop-rest
invariant-loop-rest l = names_in l.rest ≡ names_in l.payloads

abbrev pub decreases-loop-rest : goal.decreases-loop-rest
decreases-loop-rest l = length l.rest
