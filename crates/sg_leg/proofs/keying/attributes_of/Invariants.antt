use Rattle.std.proofs.Common.{◌≡◌, ◌++◌, drop, map, length}
use Rattle.sg_agreement.specs.Keying.{attributes_of}
use Rattle.sg_leg.proofs.keying.attributes_of.Given as goal

abbrev pub invariant-loop-lines : goal.invariant-loop-lines
invariant-loop-lines l = (l.all.items ++ map attributes_of (drop l.lines-index l.media) ≡ map attributes_of l.media) × (length l.all.items ≡ l.lines-index)
