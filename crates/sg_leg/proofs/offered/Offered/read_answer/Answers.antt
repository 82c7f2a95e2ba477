use Rattle.std.proofs.Common.{◌∙◌, length, sym, ap, arith}
use Rattle.sg_agreement.specs.Sides.{actives_after, other_side}
use Rattle.sg_leg.specs.Values.{OfferedValue}
use Rattle.sg_leg.proofs.Agreed.{active_count, agreed_is, all_addressed, answer_count, keyed_count, media_low, not_keyed, not_read, served}
use Rattle.sg_leg.proofs.offered.Offered.read_answer.Goals as goal

pub returns-in-Err-clause-agreed : goal.returns-in-Err-clause-agreed
returns-in-Err-clause-agreed c = λ offer is.
    not_read c.args.psks.now c.args.self.now offer is c.args.noise.now c.args.text.now c.other_side-side.result c.media.result
    (c.other_side-side.ensures ∙ ap (λ (o : OfferedValue). other_side o.side) c.self.view_is) c.media.ensures.value c.in-Err.fault c.in-Err.ensures.described c.args.self.now.slot

pub actives_after-active-requires-clause-count : goal.actives_after-active-requires-clause-count
actives_after-active-requires-clause-count c =
    ap length c.as_slice.ensures ∙ answer_count c.args.psks.now c.args.self.now c.requires.open.0 c.requires.open.1 c.args.noise.now c.args.text.now c.other_side-side.result c.media.result
    (c.other_side-side.ensures ∙ ap (λ (o : OfferedValue). other_side o.side) c.self.view_is) c.media.ensures.value c.in-Ok.answer c.in-Ok.ensures.described
    ∙ ap (λ (o : OfferedValue). length o.description.media) (sym c.self.view_is) ∙ ap length (sym c.as_slice-offered.ensures)

pub keyed_media-requires-clause-answers : goal.keyed_media-requires-clause-answers
keyed_media-requires-clause-answers c =
    answer_count c.args.psks.now c.args.self.now c.requires.open.0 c.requires.open.1 c.args.noise.now c.args.text.now c.other_side-side.result c.media.result
    (c.other_side-side.ensures ∙ ap (λ (o : OfferedValue). other_side o.side) c.self.view_is) c.media.ensures.value c.in-Ok.answer c.in-Ok.ensures.described

pub keyed_media-requires-clause-actives : goal.keyed_media-requires-clause-actives
keyed_media-requires-clause-actives c =
    active_count c.args.psks.now c.args.self.now c.requires.open.0 c.requires.open.1 c.args.noise.now c.args.text.now c.other_side-side.result c.media.result
    (c.other_side-side.ensures ∙ ap (λ (o : OfferedValue). other_side o.side) c.self.view_is) c.media.ensures.value c.in-Ok.answer c.in-Ok.ensures.described c.as_slice-2.result.now
    (c.as_slice-2.ensures.value ∙ c.actives_after-active.ensures ∙ (λ i. actives_after c.self.inside.side (c.as_slice-offered.ensures i) (c.as_slice.ensures i)) ∙ ap (λ (o : OfferedValue). actives_after o.side o.description.media c.in-Ok.answer.media) c.self.view_is)

pub returns-in-Err-keyed_media-clause-agreed : goal.returns-in-Err-keyed_media-clause-agreed
returns-in-Err-keyed_media-clause-agreed c = λ offer is.
    not_keyed c.args.psks.now c.args.self.now offer is c.args.noise.now c.args.text.now c.other_side-side.result c.media.result
    (c.other_side-side.ensures ∙ ap (λ (o : OfferedValue). other_side o.side) c.self.view_is) c.media.ensures.value c.in-Ok.answer c.in-Ok.ensures.described c.as_slice-2.result.now
    (c.as_slice-2.ensures.value ∙ c.actives_after-active.ensures ∙ (λ i. actives_after c.self.inside.side (c.as_slice-offered.ensures i) (c.as_slice.ensures i)) ∙ ap (λ (o : OfferedValue). actives_after o.side o.description.media c.in-Ok.answer.media) c.self.view_is) c.in-Err-keyed_media.fault (c.in-Err-keyed_media.ensures offer is) c.args.self.now.slot

pub text_and_media-requires-clause-answers : goal.text_and_media-requires-clause-answers
text_and_media-requires-clause-answers c =
    answer_count c.args.psks.now c.args.self.now c.requires.open.0 c.requires.open.1 c.args.noise.now c.args.text.now c.other_side-side.result c.media.result
    (c.other_side-side.ensures ∙ ap (λ (o : OfferedValue). other_side o.side) c.self.view_is) c.media.ensures.value c.in-Ok.answer c.in-Ok.ensures.described

pub text_and_media-requires-clause-actives : goal.text_and_media-requires-clause-actives
text_and_media-requires-clause-actives c =
    active_count c.args.psks.now c.args.self.now c.requires.open.0 c.requires.open.1 c.args.noise.now c.args.text.now c.other_side-side.result c.media.result
    (c.other_side-side.ensures ∙ ap (λ (o : OfferedValue). other_side o.side) c.self.view_is) c.media.ensures.value c.in-Ok.answer c.in-Ok.ensures.described c.as_slice-3.result.now
    (c.as_slice-3.ensures.value ∙ c.actives_after-active.ensures ∙ (λ i. actives_after c.self.inside.side (c.as_slice-offered.ensures i) (c.as_slice.ensures i)) ∙ ap (λ (o : OfferedValue). actives_after o.side o.description.media c.in-Ok.answer.media) c.self.view_is)

pub text_and_media-requires-clause-keyed : goal.text_and_media-requires-clause-keyed
text_and_media-requires-clause-keyed c =
    keyed_count c.args.psks.now c.args.self.now c.requires.open.0 c.requires.open.1 c.args.noise.now c.args.text.now c.other_side-side.result c.media.result
    (c.other_side-side.ensures ∙ ap (λ (o : OfferedValue). other_side o.side) c.self.view_is) c.media.ensures.value c.in-Ok.answer c.in-Ok.ensures.described c.as_slice-2.result.now
    (c.as_slice-2.ensures.value ∙ c.actives_after-active.ensures ∙ (λ i. actives_after c.self.inside.side (c.as_slice-offered.ensures i) (c.as_slice.ensures i)) ∙ ap (λ (o : OfferedValue). actives_after o.side o.description.media c.in-Ok.answer.media) c.self.view_is) c.in-Ok-keyed_media.keyed (c.in-Ok-keyed_media.ensures c.requires.open.0 c.requires.open.1)

pub text_and_media-requires-clause-addressed : goal.text_and_media-requires-clause-addressed
text_and_media-requires-clause-addressed c =
    all_addressed c.args.psks.now c.args.self.now c.requires.open.0 c.requires.open.1 c.args.noise.now c.args.text.now c.other_side-side.result c.media.result
    (c.other_side-side.ensures ∙ ap (λ (o : OfferedValue). other_side o.side) c.self.view_is) c.media.ensures.value c.in-Ok.answer c.in-Ok.ensures.described c.as_slice-2.result.now
    (c.as_slice-2.ensures.value ∙ c.actives_after-active.ensures ∙ (λ i. actives_after c.self.inside.side (c.as_slice-offered.ensures i) (c.as_slice.ensures i)) ∙ ap (λ (o : OfferedValue). actives_after o.side o.description.media c.in-Ok.answer.media) c.self.view_is) c.in-Ok-keyed_media.keyed (c.in-Ok-keyed_media.ensures c.requires.open.0 c.requires.open.1)

pub returns-in-Ok-text_and_media-clause-agreed : goal.returns-in-Ok-text_and_media-clause-agreed
returns-in-Ok-text_and_media-clause-agreed c = λ offer is.
    agreed_is c.args.psks.now c.args.self.now offer is c.args.noise.now c.args.text.now c.other_side-side.result c.media.result
    (c.other_side-side.ensures ∙ ap (λ (o : OfferedValue). other_side o.side) c.self.view_is) c.media.ensures.value c.in-Ok.answer c.in-Ok.ensures.described c.as_slice-2.result.now
    (c.as_slice-2.ensures.value ∙ c.actives_after-active.ensures ∙ (λ i. actives_after c.self.inside.side (c.as_slice-offered.ensures i) (c.as_slice.ensures i)) ∙ ap (λ (o : OfferedValue). actives_after o.side o.description.media c.in-Ok.answer.media) c.self.view_is) c.in-Ok-keyed_media.keyed (c.in-Ok-keyed_media.ensures offer is) c.args.self.now.slot c.in-Ok-text_and_media.agreed.0 c.in-Ok-text_and_media.agreed.1 c.as_slice-3.result.now
    (c.as_slice-3.ensures.value ∙ c.actives_after-active.ensures ∙ (λ i. actives_after c.self.inside.side (c.as_slice-offered.ensures i) (c.as_slice.ensures i)) ∙ ap (λ (o : OfferedValue). actives_after o.side o.description.media c.in-Ok.answer.media) c.self.view_is)
    c.in-Ok-text_and_media.ensures.text c.in-Ok-text_and_media.ensures.media

pub returns-in-Ok-text_and_media-clause-few : goal.returns-in-Ok-text_and_media-clause-few
returns-in-Ok-text_and_media-clause-few c =
    let long = ap length c.in-Ok-text_and_media.ensures.media in
    let low = media_low c.args.self.now.side c.args.self.now.description.media c.in-Ok.answer.media c.in-Ok-keyed_media.keyed.media in
    let few = c.media.ensures.most in
    let count = c.media.ensures.value in
    omega (arith, long, low, few, count)

pub returns-in-Ok-text_and_media-clause-served : goal.returns-in-Ok-text_and_media-clause-served
returns-in-Ok-text_and_media-clause-served c =
    served c.args.psks.now c.args.self.now c.requires.open.0 c.requires.open.1 c.args.noise.now c.args.text.now c.other_side-side.result c.media.result
    (c.other_side-side.ensures ∙ ap (λ (o : OfferedValue). other_side o.side) c.self.view_is) c.media.ensures.value c.in-Ok.answer c.in-Ok.ensures.described c.as_slice-2.result.now
    (c.as_slice-2.ensures.value ∙ c.actives_after-active.ensures ∙ (λ i. actives_after c.self.inside.side (c.as_slice-offered.ensures i) (c.as_slice.ensures i)) ∙ ap (λ (o : OfferedValue). actives_after o.side o.description.media c.in-Ok.answer.media) c.self.view_is) c.in-Ok-keyed_media.keyed (c.in-Ok-keyed_media.ensures c.requires.open.0 c.requires.open.1) c.agreements_are_sound.ensures.sound c.args.self.now.slot c.in-Ok-text_and_media.agreed.1 c.in-Ok-text_and_media.ensures.media
