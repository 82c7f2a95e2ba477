use Rattle.std.proofs.Common.{◌≡◌, drop, length}
use Rattle.sg_agreement.specs.CarriedTexts.{with_media_lines}
use Rattle.sg_leg.specs.Texts.{with_lines_from}
use Rattle.sg_leg.proofs.carrying.add_media_lines.Given as goal

abbrev pub invariant-loop-medium : goal.invariant-loop-medium
invariant-loop-medium l =
    (l.sdp.session ≡ l.fn.sdp.session) × (with_lines_from l.medium (drop l.medium l.media) l.sdp.media ≡ with_media_lines l.fn.sdp.media l.media)
    × (length l.sdp.media ≡ length l.fn.sdp.media)
