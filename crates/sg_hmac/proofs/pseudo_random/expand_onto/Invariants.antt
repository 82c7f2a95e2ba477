use Rattle.std.proofs.Common.{◌≡◌, ◌*◌, ◌+◌, ◌++◌, take, drop}
use Rattle.sg_base.specs.Octets.{xor_octets}
use Rattle.sg_hmac.specs.Prf.{chained, joined_macs}
use Rattle.sg_hmac.proofs.pseudo_random.expand_onto.Given as goal

abbrev pub invariant-loop-i : goal.invariant-loop-i
invariant-loop-i l =
    (l.part ≡ xor_octets (take (20 * l.i) l.initial.part) (joined_macs l.secret (l.head ++ l.tail) l.i) ++ drop (20 * l.i) l.initial.part)
    × (l.chain ≡ chained l.secret (l.head ++ l.tail) (l.i + 1))
