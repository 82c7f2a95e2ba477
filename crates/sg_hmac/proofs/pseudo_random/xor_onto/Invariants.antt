use Rattle.std.proofs.Common.{◌≡◌}
use Rattle.sg_hmac.proofs.PrfLemmas.{so_far}
use Rattle.sg_hmac.proofs.pseudo_random.xor_onto.Given as goal

abbrev pub invariant-loop-i : goal.invariant-loop-i
invariant-loop-i l = l.part ≡ so_far l.i l.initial.part l.mac
