use Rattle.std.proofs.Common.{◌≡◌, ◌++◌, drop, map}
use Rattle.sg_agreement.specs.CarriedTexts.{crypto_attribute}
use Rattle.sg_leg.proofs.keying.attributes_all.Given as goal

abbrev pub invariant-loop-line : goal.invariant-loop-line
invariant-loop-line l = l.texts ++ map crypto_attribute (drop l.line-index l.lines) ≡ map crypto_attribute l.lines
