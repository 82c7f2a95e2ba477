-- What an answer agrees, by its stages.
use Rattle.std.proofs.Common.{◌≡◌, ℕ, zero, suc, ◌+◌, ◌≤◌, ◌<◌, Bool, true, false, cond, not, ◌&&◌, List, [], ◌∷◌, length, map, slice_get, Option, option_map, Some, None, is_some, is_none, Result, Ok, Err, refl, sym, ap, ◌∙◌, subst, arith}
use Rattle.std.proofs.lemmas.Bool.{and_parts}
use Rattle.std.proofs.lemmas.List.Elements.{All-from_recursion, recursion_from_All}
use Rattle.std.proofs.lemmas.List.{length-map}
use Rattle.std.specs.List.{All, AllByRecursion}
use Rattle.sg_agreement.proofs.AllAgreed.{there, IsWhole, answered_all, offer_whole}
use Rattle.sg_agreement.proofs.FewMedia.{described_count}
use Rattle.sg_agreement.specs.Answers.{Answered, AgreedAnswer, answered_by, accepted_answer, agreed_answer}
use Rattle.sg_agreement.specs.Described.{described, of_text, with_addresses, unaddressed}
use Rattle.sg_agreement.specs.Keyed.{Keyed, medium_between, medium_agreed, media_agreed}
use Rattle.sg_agreement.specs.Keying.{Offer}
use Rattle.sg_agreement.specs.Messages.{AtHand}
use Rattle.sg_agreement.specs.Offers.{AgreedOffer, keying_of, agreed_offer}
use Rattle.sg_agreement.specs.Sides.{side_of, other_side, is_active, actives_after}
use Rattle.sg_agreement.specs.Sound.{IsSound, IsSoundMedium, IsSoundStream}
use Rattle.sg_agreement.specs.declared.ways.Way.{Way}
use Rattle.sg_base.specs.declared.addresses.Kind.{Kind}
use Rattle.sg_base.specs.declared.addresses.Side.{Side}
use Rattle.sg_base.specs.declared.addresses.Side.TheVariants.{Secure, Plain}
use Rattle.sg_base.specs.declared.faults.Refusal.{Refusal}
use Rattle.sg_base.specs.declared.faults.Refusal.TheVariants as refusals
use Rattle.sg_agreement.specs.Media.{Stream}
use Rattle.sg_sdp.specs.Reading.{description_of}
use Rattle.sg_sdp.specs.declared.medium.Medium as descriptions
use Rattle.sg_sdp.specs.declared.sdp.Sdp.{Sdp}
use Rattle.sg_session.proofs.Inversions.{after_ok_is, stop_if_is, ok_is}
use Rattle.sg_session.specs.Stages.{after_ok}
use Rattle.sg_leg.specs.Open.{AreAddressed, WasOffered}
use Rattle.sg_leg.specs.Served.{IsServed, IsServedMedium, IsServedIf}

-- ---- active media have addresses

abbrev HaveAddresses : Side → List descriptions.Medium → Type 0
HaveAddresses side ms = AllByRecursion (λ (m : descriptions.Medium). is_active side m ≡ true → is_some m.address ≡ true) ms

has_address : (o : Option (List ℕ)) → is_none o ≡ false → is_some o ≡ true
has_address None e = absurd cc
has_address (Some x) e = refl

lacks_none : (a : Bool) (o : Option (List ℕ)) → (a && is_none o) ≡ false → a ≡ true → is_some o ≡ true
lacks_none true o e is = has_address o e
lacks_none false o e is = absurd cc

all_addressed : (side : Side) (n : ℕ) (ms : List descriptions.Medium) → unaddressed side n ms ≡ None → HaveAddresses side ms
all_addressed side n [] e = tt
all_addressed side n (m ∷ ms) e = go (λ e. all_addressed side (n + 1 + length m.lines) ms e) (is_active side m && is_none m.address) refl e
  where
    go : (unaddressed side (n + 1 + length m.lines) ms ≡ None → HaveAddresses side ms) → (b : Bool) → (is_active side m && is_none m.address) ≡ b → cond b (Some n) (unaddressed side (n + 1 + length m.lines) ms) ≡ None → HaveAddresses side (m ∷ ms)
    go rest true is e = absurd cc
    go rest false is e = (lacks_none (is_active side m) m.address is, rest e)

with_none : (s : Sdp) (o : Option ℕ) (t : Sdp) → with_addresses s o ≡ Ok t → (o ≡ None) × (s ≡ t)
with_none s None t e = (refl, ok_is s t e)
with_none s (Some n) t e = absurd cc

pub described_addressed : (side : Side) (count : Option ℕ) (text : List ℕ) (s : Sdp) → described side count text ≡ Ok s → HaveAddresses side s.media
unfolding described
described_addressed side count text s e =
    let a = after_ok_is (of_text (description_of text)) _ s e in
    let b = after_ok_is (with_addresses a.0 (unaddressed side (length a.0.session + 1) a.0.media)) _ s a.2 in
    let c = stop_if_is _ refusals.NoMedia _ s b.2 in
    let d = stop_if_is _ refusals.MediaCount _ s c.1 in
    let w = with_none a.0 (unaddressed side (length a.0.session + 1) a.0.media) b.0 b.1 in
    subst (λ (s : Sdp). HaveAddresses side s.media) (w.1 ∙ ok_is b.0 s d.1) (all_addressed side (length a.0.session + 1) a.0.media w.0)

abbrev OfferAddressed : AgreedOffer → Type 0
OfferAddressed a = HaveAddresses a.offer.side a.offer.description.media

offer_addressed : (h : AtHand) (way : Way) (text : List ℕ) (a : AgreedOffer) → agreed_offer h way text ≡ Ok a → OfferAddressed a
unfolding agreed_offer
offer_addressed h way text a e =
    let p = after_ok_is (described (side_of way) h.media text) _ a e in
    let q = after_ok_is (keying_of h p.0 way) _ a p.2 in
    subst OfferAddressed (ok_is _ a q.2) (described_addressed (side_of way) h.media text p.0 p.1)

pub was_addressed : (o : Offer) → WasOffered o → HaveAddresses o.side o.description.media
was_addressed o was = subst (λ (o : Offer). HaveAddresses o.side o.description.media) was.is (offer_addressed was.hand was.way was.text was.agreed was.is_agreed)

pub was_whole : (o : Offer) → WasOffered o → IsWhole o.side o.description.media o.keying
was_whole o was = subst (λ (o : Offer). IsWhole o.side o.description.media o.keying) was.is (offer_whole was.hand was.way was.text was.agreed was.is_agreed)

-- ---- where a medium is keyed

keyed_where : (side : Side) (ms ns : List descriptions.Medium) (ks : List (Option Keyed)) → there ks ≡ actives_after side ms ns
    → HaveAddresses side ms → HaveAddresses (other_side side) ns
    → (i : ℕ) (m n : descriptions.Medium) (k : Option Keyed) → slice_get ms i ≡ Some m → slice_get ns i ≡ Some n → slice_get ks i ≡ Some k → is_some k ≡ true
    → (is_some m.address ≡ true) × (is_some n.address ≡ true)
keyed_where side (x ∷ ms) (y ∷ ns) (z ∷ ks) are p q zero m n k am an ak is =
    let this : is_some z ≡ (is_active side x && is_active (other_side side) y) = cc in
    let same_m : x ≡ m = cc in
    let same_n : y ≡ n = cc in
    let same_k : z ≡ k = cc in
    let both = and_parts (is_active side x) (is_active (other_side side) y) (sym this ∙ ap is_some same_k ∙ is) in
    (subst (λ (m : descriptions.Medium). is_some m.address ≡ true) same_m (p.0 both.0), subst (λ (n : descriptions.Medium). is_some n.address ≡ true) same_n (q.0 both.1))
keyed_where side (x ∷ ms) (y ∷ ns) (z ∷ ks) are p q (suc i) m n k am an ak is =
    let others : there ks ≡ actives_after side ms ns = cc in
    keyed_where side ms ns ks others p.1 q.1 i m n k am an ak is
keyed_where side ms ns ks are p q i m n k am an ak is = absurd cc

pub active_long : (side : Side) (ms ns : List descriptions.Medium) → length ns ≡ length ms → length (actives_after side ms ns) ≡ length ms
active_long side [] ns e = refl
active_long side (m ∷ ms) [] e = absurd (omega (arith, e))
active_long side (m ∷ ms) (n ∷ ns) e = ap suc (active_long side ms ns (omega (arith, e)))

-- ---- an answer

module _ (o : Offer) (was : WasOffered o) (noise text : List ℕ) (s : Sdp) (is : described (other_side o.side) (Some (length o.description.media)) text ≡ Ok s) where
  abbrev active : List Bool
  active = actives_after o.side o.description.media s.media

  pub answer_long : length s.media ≡ length o.description.media
  answer_long = described_count (other_side o.side) (length o.description.media) text s is

  module _ (a : Answered) (by : answered_by o noise s active o.keying ≡ Ok a) where
    all_there : there a.media ≡ active
    all_there = answered_all o noise s o.keying a (was_whole o was) by

    pub keyed_long : length a.media ≡ length o.description.media
    keyed_long = sym (length-map a.media is_some) ∙ ap length all_there ∙ active_long o.side o.description.media s.media answer_long

    pub are_addressed : AreAddressed o.description.media s.media a.media
    are_addressed = keyed_where o.side o.description.media s.media a.media all_there (was_addressed o was) (described_addressed (other_side o.side) (Some (length o.description.media)) text s is)

    pub answer_is : (slot : ℕ) → agreed_answer slot o noise text ≡ Ok (accepted_answer slot o s active a)
    unfolding agreed_answer
    answer_is slot =
        ap (λ r. after_ok r (λ s. after_ok (answered_by o noise s (actives_after o.side o.description.media s.media) o.keying) (λ a. Ok (accepted_answer slot o s (actives_after o.side o.description.media s.media) a)))) is
        ∙ ap (λ r. after_ok r (λ a. Ok (accepted_answer slot o s active a))) by

  pub not_answered : (slot : ℕ) (cause : Refusal) → answered_by o noise s active o.keying ≡ Err cause → agreed_answer slot o noise text ≡ Err cause
  unfolding agreed_answer
  not_answered slot cause by =
      ap (λ r. after_ok r (λ s. after_ok (answered_by o noise s (actives_after o.side o.description.media s.media) o.keying) (λ a. Ok (accepted_answer slot o s (actives_after o.side o.description.media s.media) a)))) is
      ∙ ap (λ r. after_ok r (λ a. Ok (accepted_answer slot o s active a))) by

pub not_described : (o : Offer) (noise text : List ℕ) (slot : ℕ) (cause : Refusal) → described (other_side o.side) (Some (length o.description.media)) text ≡ Err cause → agreed_answer slot o noise text ≡ Err cause
unfolding agreed_answer
not_described o noise text slot cause is =
    ap (λ r. after_ok r (λ s. after_ok (answered_by o noise s (actives_after o.side o.description.media s.media) o.keying) (λ a. Ok (accepted_answer slot o s (actives_after o.side o.description.media s.media) a)))) is

-- ---- what is agreed is served

stream_served : (kind : Kind) (s : Stream) → IsSoundStream s → IsServed kind s
stream_served kind s is = record { mkis = is.mkis; some = is.some; few = is.few; secret = λ _. is.secret }

lt_of : (n : ℕ) → Rattle.std.proofs.Common.ltb n 65535 ≡ true → n < 65535
lt_of n e = Rattle.std.proofs.lemmas.Bool.ltb-true n 65535 e

between_served : (k : Keyed) (secure plain : descriptions.Medium) → IsSound (medium_between k secure plain) → IsServedMedium (medium_between k secure plain)
between_served k secure plain is = record {
  from_peer = stream_served _ k.from_peer is.from_peer;
  to_peer = stream_served _ k.to_peer is.to_peer;
  from_peer_rtcp = λ _. stream_served _ k.from_peer is.from_peer;
  to_peer_rtcp = λ _. stream_served _ k.to_peer is.to_peer;
  secure = λ e. lt_of secure.port (and_parts _ _ e).0;
  plain = λ e. lt_of plain.port (and_parts _ _ e).1;
  least = is.least;
  most = is.most;
}

agreed_served : (side : Side) (k : Option Keyed) (m n : descriptions.Medium) → IsSoundMedium (option_map (λ k. medium_agreed side k m n) k) → IsServedIf (option_map (λ k. medium_agreed side k m n) k)
agreed_served side None m n is = tt
agreed_served Secure (Some k) m n is = between_served k m n is
agreed_served Plain (Some k) m n is = between_served k n m is

media_served : (side : Side) (ms ns : List descriptions.Medium) (ks : List (Option Keyed)) → AllByRecursion IsSoundMedium (media_agreed side ms ns ks) → AllByRecursion IsServedIf (media_agreed side ms ns ks)
media_served side (m ∷ ms) (n ∷ ns) (k ∷ ks) p = (agreed_served side k m n p.0, media_served side ms ns ks p.1)
media_served side ms ns ks p = tt

-- what the law of agreements says
abbrev pub AreSound : Type 0
AreSound = (h : AtHand) (way : Way) (offered noise answer : List ℕ) (slot : ℕ) (a : AgreedOffer) (g : AgreedAnswer)
    → agreed_offer h way offered ≡ Ok a → agreed_answer slot a.offer noise answer ≡ Ok g → All IsSoundMedium g.media

pub all_served : AreSound → (o : Offer) → WasOffered o → (noise text : List ℕ) (slot : ℕ) (s : Sdp) (active : List Bool) (a : Answered) → agreed_answer slot o noise text ≡ Ok (accepted_answer slot o s active a)
    → All IsServedIf (media_agreed o.side o.description.media s.media a.media)
all_served sound o was noise text slot s active a e =
    All-from_recursion IsServedIf _ (media_served o.side o.description.media s.media a.media
    (recursion_from_All IsSoundMedium _ (sound was.hand was.way was.text noise text slot was.agreed (accepted_answer slot o s active a) was.is_agreed
    (subst (λ o'. agreed_answer slot o' noise text ≡ Ok (accepted_answer slot o s active a)) (sym was.is) e))))
