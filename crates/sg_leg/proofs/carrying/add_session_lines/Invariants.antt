use Rattle.std.proofs.Common.{◌≡◌, ◌++◌, drop}
use Rattle.sg_leg.proofs.carrying.add_session_lines.Given as goal

abbrev pub invariant-loop-line : goal.invariant-loop-line
invariant-loop-line l =
    (l.sdp.session ++ drop l.line-index l.lines ≡ l.fn.sdp.session ++ l.lines) × (l.sdp.media ≡ l.fn.sdp.media)
