use Rattle.std.proofs.Common.{◌≡◌, length}
use Rattle.sg_psk.specs.KeyData.{all_differ}
use Rattle.sg_psk.proofs.key_data.all_differ.Given as goal

abbrev pub invariant-loop-rest : goal.invariant-loop-rest
invariant-loop-rest l = all_differ l.rest ≡ all_differ l.keys

abbrev pub decreases-loop-rest : goal.decreases-loop-rest
decreases-loop-rest l = length l.rest
