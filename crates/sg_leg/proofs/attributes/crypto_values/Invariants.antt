use Rattle.std.proofs.Common.{◌≡◌, ◌++◌, drop}
use Rattle.sg_agreement.specs.Attributes.{crypto_values}
use Rattle.sg_leg.proofs.attributes.crypto_values.Given as goal

abbrev pub invariant-loop-line : goal.invariant-loop-line
invariant-loop-line l = l.values.items ++ crypto_values (drop l.line-index l.lines) ≡ crypto_values l.lines
