use Rattle.std.proofs.Common.{◌≡◌}
use Rattle.sg_hmac.proofs.PrfLemmas.{so_far}
use Rattle.sg_psk.proofs.envelope.xored.Given as goal

abbrev pub invariant-loop-i : goal.invariant-loop-i
invariant-loop-i l = l.out ≡ so_far l.i l.octets l.others
