use Rattle.std.proofs.Common.{◌≡◌, drop, length}
use Rattle.sg_leg.specs.Texts.{with_lines_at}
use Rattle.sg_leg.proofs.carrying.add_lines_at.Given as goal

abbrev pub invariant-loop-line : goal.invariant-loop-line
invariant-loop-line l =
    (l.sdp.session ≡ l.fn.sdp.session) × (with_lines_at l.medium (drop l.line-index l.lines) l.sdp.media ≡ with_lines_at l.medium l.lines l.fn.sdp.media)
    × (length l.sdp.media ≡ length l.fn.sdp.media)
