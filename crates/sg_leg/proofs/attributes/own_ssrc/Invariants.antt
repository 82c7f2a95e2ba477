use Rattle.std.proofs.Common.{◌≡◌, drop}
use Rattle.sg_agreement.specs.Attributes.{own_ssrc}
use Rattle.sg_leg.proofs.attributes.own_ssrc.Given as goal

abbrev pub invariant-loop-line : goal.invariant-loop-line
invariant-loop-line l = own_ssrc (drop l.line-index l.lines) ≡ own_ssrc l.lines
