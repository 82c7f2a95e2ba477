use Rattle.std.proofs.Common.{◌≡◌, length}
use Rattle.sg_psk.specs.Parts.{closing_in}
use Rattle.sg_psk.proofs.parts.closing_in.Given as goal

abbrev pub invariant-loop-rest : goal.invariant-loop-rest
invariant-loop-rest l = closing_in l.rest ≡ closing_in l.payloads

abbrev pub decreases-loop-rest : goal.decreases-loop-rest
decreases-loop-rest l = length l.rest
