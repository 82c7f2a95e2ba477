use Rattle.std.proofs.Common.{◌≡◌, drop}
use Rattle.sg_sdp.specs.Addresses.{first_address}
use Rattle.sg_sdp.proofs.addresses.first_address.Given as goal

abbrev pub invariant-loop-line : goal.invariant-loop-line
invariant-loop-line l = first_address (drop l.line-index l.lines) ≡ first_address l.lines
