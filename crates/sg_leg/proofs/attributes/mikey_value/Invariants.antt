use Rattle.std.proofs.Common.{◌≡◌, drop}
use Rattle.sg_agreement.specs.Attributes.{mikey_value}
use Rattle.sg_leg.proofs.attributes.mikey_value.Given as goal

abbrev pub invariant-loop-line : goal.invariant-loop-line
invariant-loop-line l = mikey_value (drop l.line-index l.lines) ≡ mikey_value l.lines
