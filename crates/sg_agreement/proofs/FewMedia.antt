-- By which stages offers and answers are accepted, and how many media an accepted offer has.
use Rattle.std.proofs.Common.{◌≡◌, ◌≤◌, ℕ, ◌+◌, not, eqb, List, length, Option, Some, None, Result, Ok, Err, refl, sym, ap, ◌∙◌, subst}
use Rattle.std.proofs.lemmas.Bool.{eqb-true, not-false}
use Rattle.sg_base.specs.declared.addresses.Side.{Side}
use Rattle.sg_base.specs.declared.faults.Refusal.TheVariants as refusals
use Rattle.sg_base.specs.declared.faults.SdpFault.{SdpFault}
use Rattle.sg_sdp.specs.Reading.{description_of}
use Rattle.sg_sdp.specs.declared.sdp.Sdp.{Sdp}
use Rattle.sg_session.proofs.Inversions.{after_ok_is, stop_if_is, ok_is}
use Rattle.sg_agreement.proofs.Texts.{Takes, whole}
use Rattle.sg_agreement.specs.Answers.{AgreedAnswer, Answered, accepted_answer, agreed_answer, answered_by}
use Rattle.sg_agreement.specs.Described.{described, of_text, with_addresses, unaddressed}
use Rattle.sg_agreement.specs.Keying.{Keying, Offer}
use Rattle.sg_agreement.specs.Messages.{AtHand}
use Rattle.sg_agreement.specs.Offers.{AgreedOffer, accepted_offer, keying_of, agreed_offer}
use Rattle.sg_agreement.specs.Sides.{actives_after, other_side, side_of}
use Rattle.sg_agreement.specs.declared.ways.Way.{Way}

of_text_is : (r : Result Sdp (ℕ × SdpFault)) (s : Sdp) → of_text r ≡ Ok s → r ≡ Ok s
of_text_is (Ok t) s e = let same : t ≡ s = cc in ap Ok same
of_text_is (Err f) s e = absurd cc

addresses_is : (s : Sdp) (o : Option ℕ) (t : Sdp) → with_addresses s o ≡ Ok t → s ≡ t
addresses_is s None t e = cc
addresses_is s (Some n) t e = absurd cc

pub described_is : (side : Side) (count : Option ℕ) (text : List ℕ) (s : Sdp) → described side count text ≡ Ok s → description_of text ≡ Ok s
unfolding described
described_is side count text s e =
    let a = after_ok_is (of_text (description_of text)) _ s e in
    let b = after_ok_is (with_addresses a.0 (unaddressed side (length a.0.session + 1) a.0.media)) _ s a.2 in
    let c = stop_if_is _ refusals.NoMedia _ s b.2 in
    let d = stop_if_is _ refusals.MediaCount _ s c.1 in
    let same : a.0 ≡ s = addresses_is a.0 _ b.0 b.1 ∙ ok_is b.0 s d.1 in
    of_text_is (description_of text) a.0 a.1 ∙ ap Ok same

pub described_count : (side : Side) (count : ℕ) (text : List ℕ) (s : Sdp) → described side (Some count) text ≡ Ok s → length s.media ≡ count
unfolding described
described_count side count text s e =
    let a = after_ok_is (of_text (description_of text)) _ s e in
    let b = after_ok_is (with_addresses a.0 (unaddressed side (length a.0.session + 1) a.0.media)) _ s a.2 in
    let c = stop_if_is _ refusals.NoMedia _ s b.2 in
    let d = stop_if_is (not (eqb (length b.0.media) count)) refusals.MediaCount (Ok b.0) s c.1 in
    subst (λ (s : Sdp). length s.media ≡ count) (ok_is b.0 s d.1) (eqb-true (length b.0.media) count (not-false _ d.0))

described_few : Takes → (side : Side) (count : Option ℕ) (text : List ℕ) (s : Sdp) → described side count text ≡ Ok s → length s.media ≤ 4
described_few takes side count text s e = (takes 2048 text s (whole text s (described_is side count text s e)).1).0.few

-- ---- an offer and an answer that are accepted, by their stages

-- what holds of each offer that is made of a description and a keying, holds of the offer
pub of_offer : (P : AgreedOffer → Type 0) (h : AtHand) (way : Way) (text : List ℕ) (a : AgreedOffer) → agreed_offer h way text ≡ Ok a
    → ((s : Sdp) (k : Keying) → described (side_of way) h.media text ≡ Ok s → keying_of h s way ≡ Ok k → P (accepted_offer h.slot (record { side = side_of way; description = s; keying = k }))) → P a
unfolding agreed_offer
of_offer P h way text a e holds =
    let p = after_ok_is (described (side_of way) h.media text) _ a e in
    let q = after_ok_is (keying_of h p.0 way) _ a p.2 in
    subst P (ok_is _ a q.2) (holds p.0 q.0 p.1 q.1)

pub of_answer : (P : AgreedAnswer → Type 0) (slot : ℕ) (o : Offer) (noise text : List ℕ) (g : AgreedAnswer) → agreed_answer slot o noise text ≡ Ok g
    → ((s : Sdp) (a : Answered) → described (other_side o.side) (Some (length o.description.media)) text ≡ Ok s
    → answered_by o noise s (actives_after o.side o.description.media s.media) o.keying ≡ Ok a → P (accepted_answer slot o s (actives_after o.side o.description.media s.media) a)) → P g
unfolding agreed_answer
of_answer P slot o noise text g e holds =
    let p = after_ok_is (described (other_side o.side) (Some (length o.description.media)) text) _ g e in
    let q = after_ok_is (answered_by o noise p.0 (actives_after o.side o.description.media p.0.media) o.keying) _ g p.2 in
    subst P (ok_is _ g q.2) (holds p.0 q.0 p.1 q.1)

-- ---- how many media it has

pub few_media : Takes → (h : AtHand) (way : Way) (text : List ℕ) (a : AgreedOffer) → agreed_offer h way text ≡ Ok a → a.media ≤ 4
few_media takes h way text a e = of_offer (λ a. a.media ≤ 4) h way text a e (λ s k was is. described_few takes (side_of way) h.media text s was)

-- an open offer describes as many media as its call has from then on
pub offer_media : (h : AtHand) (way : Way) (text : List ℕ) (a : AgreedOffer) → agreed_offer h way text ≡ Ok a → length a.offer.description.media ≡ a.media
offer_media h way text a e = of_offer (λ a. length a.offer.description.media ≡ a.media) h way text a e (λ s k was is. refl)

-- and as many as the call has already, where it has some
pub offer_count : (h : AtHand) (way : Way) (text : List ℕ) (a : AgreedOffer) (count : ℕ) → agreed_offer h way text ≡ Ok a → h.media ≡ Some count → a.media ≡ count
offer_count h way text a count e has = of_offer (λ a. a.media ≡ count) h way text a e (λ s k was is.
    described_count (side_of way) count text s (ap (λ media. described (side_of way) media text) (sym has) ∙ was))
