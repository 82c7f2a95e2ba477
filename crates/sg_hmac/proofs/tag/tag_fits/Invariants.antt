use Rattle.std.proofs.Common.{◌≡◌, take}
use Rattle.sg_hmac.proofs.tag.tag_fits.Given as goal

abbrev pub invariant-loop-i : goal.invariant-loop-i
invariant-loop-i l =
    (l.difference ≡ 0 → take l.i l.tag ≡ take l.i l.whole)
    × (take l.i l.tag ≡ take l.i l.whole → l.difference ≡ 0)
