use Rattle.std.proofs.Common.{◌≡◌, take, map, length, bit_xor}
use Rattle.sg_hmac.proofs.hmac.hashed.Given as goal

abbrev pub invariant-loop-i : goal.invariant-loop-i
invariant-loop-i l = (length l.padded ≡ 64) × (take l.i l.padded ≡ map (λ x. bit_xor x l.pad) (take l.i l.block))
