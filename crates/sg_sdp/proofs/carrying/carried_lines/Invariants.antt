use Rattle.std.proofs.Common.{◌≡◌, take}
use Rattle.sg_sdp.specs.Carrying.{carried_lines}
use Rattle.sg_sdp.proofs.carrying.carried_lines.Given as goal

abbrev pub invariant-loop-line : goal.invariant-loop-line
invariant-loop-line l = l.carried ≡ carried_lines (take l.line-index l.lines)
