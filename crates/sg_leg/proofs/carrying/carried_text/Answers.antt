use Rattle.std.proofs.Common.{◌≡◌, IfOk, subst}
use Rattle.sg_leg.proofs.AddedLines.{text_is}
use Rattle.sg_leg.proofs.carrying.carried_text.Goals as goal

pub returns : goal.returns
returns c =
    subst (λ t. IfOk c.print.result (λ text. text ≡ t)) (text_is _ _ _ _ _ _ _ _ c.in_ok-carried.ensures.value c.in_ok-add_session_lines.ensures.added c.in_ok-add_media_lines.ensures.added) c.print.ensures
