use Rattle.std.proofs.Common.{◌∙◌, refl, sym, subst, map, Err}
use Rattle.sg_agreement.specs.CarriedTexts.{carried_text, exchanged, ports_from}
use Rattle.sg_agreement.specs.Described.{described}
use Rattle.sg_agreement.specs.Offers.{agreed_offer}
use Rattle.sg_agreement.specs.Sides.{other_side, actives}
use Rattle.sg_base.specs.declared.addresses.Side.{Side}
use Rattle.sg_sdp.specs.declared.medium.Medium as descriptions
use Rattle.sg_sdp.specs.declared.sdp.Sdp.{Sdp}
use Rattle.sg_leg.specs.Answering.{Tells}
use Rattle.sg_leg.specs.Open.{Opens, at_hand, media_of}
use Rattle.sg_leg.proofs.Opened.{hand_is, no_offer, no_keying, opens}
use Rattle.sg_leg.proofs.offered.open.Goals as goal

pub returns-in-Err-clause-opened : goal.returns-in-Err-clause-opened
returns-in-Err-clause-opened c =
    no_offer (at_hand c.args.before.slot (media_of c.args.before.former) c.args.noise.now c.args.now c.args.books.now) c.args.way.now c.args.text.now c.args.before.slot c.args.before.former c.args.books.now c.args.books.now c.in-Err.fault
    (subst (λ (side : Side). Tells {X = Sdp} (Err c.in-Err.fault) (described side (media_of c.args.before.former) c.args.text.now)) c.side-side.ensures
    (subst (λ n. Tells {X = Sdp} (Err c.in-Err.fault) (described c.side-side.result n c.args.text.now)) c.media_of.ensures c.in-Err.ensures.described))

pub returns-in-Err-keying_of-clause-opened : goal.returns-in-Err-keying_of-clause-opened
returns-in-Err-keying_of-clause-opened c =
    no_keying (at_hand c.args.before.slot (media_of c.args.before.former) c.args.noise.now c.args.now c.args.books.now) c.args.way.now c.args.text.now c.args.before.slot c.args.before.former c.args.books.now c.args.books.now c.args.books.now.psks c.in-Ok.description
    ((λ i. described (sym c.side-side.ensures i) (sym c.media_of.ensures i) c.args.text.now) ∙ c.in-Ok.ensures.described)
    c.in-Err-keying_of.fault (c.in-Err-keying_of.ensures.keying (at_hand c.args.before.slot (media_of c.args.before.former) c.args.noise.now c.args.now c.args.books.now) (hand_is c.args.before.slot (media_of c.args.before.former) c.args.noise.now c.args.now c.args.books.now) refl)

pub returns-clause-opened : goal.returns-clause-opened
returns-clause-opened c =
    subst (λ (side : Side). Opens c.args.before.slot c.args.before.former (agreed_offer (at_hand c.args.before.slot (media_of c.args.before.former) c.args.noise.now c.args.now c.args.books.now) c.args.way.now c.args.text.now)
    (record { slot = c.args.before.slot; former = c.args.before.former; side = side; description = c.in-Ok.description; keying = c.in-Ok-keying_of.opening.keying })
    c.in-Ok-offered_text.out c.args.books.now (record { psks = c.args.books.now.psks; seen = c.note_all.new.seen; ring = c.args.books.now.ring })) (sym c.side-side.ensures)
    (opens c.args.before.slot c.args.before.former (media_of c.args.before.former) c.args.noise.now c.args.now c.args.books.now c.args.way.now c.args.text.now c.in-Ok.description c.in-Ok-keying_of.opening c.in-Ok-offered_text.out c.note_all.new.seen
    ((λ i. described (sym c.side-side.ensures i) (sym c.media_of.ensures i) c.args.text.now) ∙ c.in-Ok.ensures.described)
    (c.in-Ok-keying_of.ensures.keying (at_hand c.args.before.slot (media_of c.args.before.former) c.args.noise.now c.args.now c.args.books.now) (hand_is c.args.before.slot (media_of c.args.before.former) c.args.noise.now c.args.now c.args.books.now) refl)
    (c.in-Ok-offered_text.ensures ∙ (λ i. carried_text (ports_from c.args.before.slot 0 (other_side (c.side-side.ensures i)) (actives (c.side-side.ensures i) c.in-Ok.description.media))
    (map (λ (m : descriptions.Medium). exchanged m.profile) c.in-Ok.description.media) (record { session = c.as_slice-session.ensures i; media = c.deref.ensures.value i }) c.in-Ok.description))
    c.note_all.ensures)
