use Rattle.std.proofs.Common.{◌∙◌, ◌+◌, ◌∷◌, sym, ap, drop}
use Rattle.std.proofs.Math.ListN.{drop_of_length-le}
use Rattle.sg_sdp.specs.declared.sdp.Sdp.{Sdp}
use Rattle.sg_leg.specs.Texts.{with_lines_from}
use Rattle.sg_leg.proofs.AddedLines.{media_next, media_none}
use Rattle.sg_agreement.proofs.Walks.{split_at}
use Rattle.sg_leg.proofs.carrying.add_media_lines.Goals as goal

pub loop-medium-preserved : goal.loop-medium-preserved
loop-medium-preserved c =
    let is = c.in_ok-add_lines_at.ensures.added in
    let later = drop (c.loop-medium.medium + 1) c.args.media.now in (
      ap (λ (s : Sdp). s.session) is ∙ c.loop-medium.invariant.0,
      ap (λ (s : Sdp). with_lines_from (c.loop-medium.medium + 1) later s.media) is
          ∙ media_next c.loop-medium.medium c.as_slice.result.now later c.loop-medium.sdp.media
          ∙ ap (λ l. with_lines_from c.loop-medium.medium l c.loop-medium.sdp.media)
          (ap (λ x. x ∷ later) c.as_slice.ensures ∙ sym (split_at c.loop-medium.medium c.index-media-medium.result c.args.media.now c.loop-medium-test.true (sym c.index-media-medium.is)))
          ∙ c.loop-medium.invariant.1,
      c.in_ok-add_lines_at.ensures.count ∙ c.loop-medium.invariant.2,
    )

pub returns : goal.returns
returns c =
    let none = drop_of_length-le c.args.media.now c.loop-medium-test.false in
    let media = sym (media_none c.loop-medium.medium c.loop-medium.sdp.media) ∙ ap (λ l. with_lines_from c.loop-medium.medium l c.loop-medium.sdp.media) (sym none) ∙ c.loop-medium.invariant.1 in
    record { added = λ i. record { session = c.loop-medium.invariant.0 i; media = media i } }
