use Rattle.std.proofs.Common.{◌∙◌, ◌+◌, ◌∷◌, sym, ap, drop}
use Rattle.std.proofs.Math.ListN.{drop_of_length-le}
use Rattle.sg_sdp.specs.declared.sdp.Sdp.{Sdp}
use Rattle.sg_leg.specs.Texts.{with_lines_at}
use Rattle.sg_leg.proofs.AddedLines.{lines_next, lines_none}
use Rattle.sg_agreement.proofs.Walks.{split_at}
use Rattle.sg_leg.proofs.carrying.add_lines_at.Goals as goal

pub loop-line-preserved : goal.loop-line-preserved
loop-line-preserved c =
    let is = c.in_ok-add_media_line.ensures.ok in (
      ap (λ (s : Sdp). s.session) is ∙ c.loop-line.invariant.0,
      ap (λ (s : Sdp). with_lines_at c.args.medium (drop (c.loop-line.line-index + 1) c.args.lines.now) s.media) is
          ∙ lines_next c.args.medium c.as_slice.result.now (drop (c.loop-line.line-index + 1) c.args.lines.now) c.loop-line.sdp.media
          ∙ ap (λ l. with_lines_at c.args.medium l c.loop-line.sdp.media)
          (ap (λ x. x ∷ drop (c.loop-line.line-index + 1) c.args.lines.now) c.as_slice.ensures ∙ sym (split_at c.loop-line.line-index c.line-item.result c.args.lines.now c.loop-line-test.true (sym c.line-item.is)))
          ∙ c.loop-line.invariant.1,
      c.in_ok-add_media_line.ensures.count ∙ c.loop-line.invariant.2,
    )

pub returns-clause-added : goal.returns-clause-added
returns-clause-added c =
    let none = drop_of_length-le c.args.lines.now c.loop-line-test.false in
    let media = sym (lines_none c.args.medium c.loop-line.sdp.media) ∙ ap (λ l. with_lines_at c.args.medium l c.loop-line.sdp.media) (sym none) ∙ c.loop-line.invariant.1 in
    λ i. record { session = c.loop-line.invariant.0 i; media = media i }
