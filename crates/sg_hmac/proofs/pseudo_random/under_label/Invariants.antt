use Rattle.std.proofs.Common.{◌≡◌, ◌-◌, ◌++◌, length}
use Rattle.sg_base.specs.Octets.{xor_octets}
use Rattle.sg_hmac.specs.Prf.{blocks_of, mikey_prf, under_blocks}
use Rattle.sg_hmac.proofs.pseudo_random.under_label.Given as goal

abbrev pub invariant-loop : goal.invariant-loop
invariant-loop l =
    (length l.part ≡ length l.fn.part)
    × (xor_octets l.part (under_blocks (blocks_of (l.end - l.counter) l.rest) (l.head ++ l.tail) (length l.fn.part)) ≡ mikey_prf l.secret (l.head ++ l.tail) (length l.fn.part))
