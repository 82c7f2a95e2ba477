use Rattle.std.proofs.Common.{◌≡◌, drop}
use Rattle.sg_agreement.specs.Attributes.{first_of, crypto_values}
use Rattle.sg_leg.proofs.attributes.first_crypto_value.Given as goal

abbrev pub invariant-loop-line : goal.invariant-loop-line
invariant-loop-line l = first_of (crypto_values (drop l.line-index l.lines)) ≡ first_of (crypto_values l.lines)
