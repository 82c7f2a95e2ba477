-- Offers against which nothing speaks are open.
use Rattle.std.proofs.Common.{◌≡◌, inl, inr, ℕ, ◌+◌, Bool, true, false, cond, not, ◌&&◌, eqb, eq-eqb, List, [], ◌∷◌, ◌++◌, length, Option, Some, None, Result, Ok, Err, refl, sym, ap, ◌∙◌, codes}
use Rattle.std.proofs.lemmas.Bool.{and_parts, cond-false, cond-true, false≢true, not_from_true, or_left, or_right}
use Rattle.std.specs.List.{AllByRecursion, Any, cons_option, filter_map, list_any}
use Rattle.std.specs.Option.{is_none, is_some}
use Rattle.sg_agreement.proofs.TextLines.{has_none, no_message}
use Rattle.sg_agreement.specs.Attributes.{behind, crypto_values, has_message, mikey_value, ssrcs_of}
use Rattle.sg_agreement.specs.Described.{described, is_other_count, lacks_address, of_text, unaddressed, with_addresses}
use Rattle.sg_agreement.specs.Keying.{Keying, PeerLines, OwnLines, PeerMessage, PeerMessages, OwnMessage}
use Rattle.sg_agreement.specs.Messages.{AtHand, bundle_in}
use Rattle.sg_agreement.specs.Offers.{AgreedOffer, accepted_offer, agreed_offer, chosen_in, keying_by_messages, keying_of, noise_of}
use Rattle.sg_agreement.specs.Sides.{active_count, is_active, is_of_side, other_side, side_of}
use Rattle.sg_agreement.specs.TextLines.{HasLine}
use Rattle.sg_base.specs.declared.faults.SdesFault.{SdesFault}
use Rattle.sg_outcome.specs.declared.outcomes.Outcome.TheVariants as outcomes
use Rattle.sg_psk.specs.Sending.{Sent, sent_of, sent_under}
use Rattle.sg_sdes.specs.Answers.{chosen_of, offered_by, or_next}
use Rattle.sg_sdes.specs.CryptoOf.{crypto_of}
use Rattle.sg_sdp.specs.declared.medium.Medium as descriptions
use Rattle.sg_sdp.specs.declared.medium.Profile.TheVariants.{Avp, Savp, Avpf, Savpf, Other}
use Rattle.sg_sdp.specs.declared.sdp.Sdp.{Sdp}
use Rattle.sg_session.proofs.Inversions.{after_ok_of, stop_if_of}
use Rattle.sg_gateway.proofs.Common.{Books, Call, CallId, CryptoLine, FromSecure, MikeyFromPlain, Pair, Plain, Profile, Refusal, SdesFromPlain, Secure, Side}
use Rattle.sg_gateway.proofs.Common.{Turn, Way, World, after_turn, any_cases, any_none, any_weaker, each_active, each_of, if_active, is_with, new_call}
use Rattle.sg_gateway.proofs.Common.{none_some, of_psk, of_sdes, pair_with, same_octets_true, some_is}
use Rattle.sg_gateway.specs.CallSignals.{at_hand, has_begun, media_of}
use Rattle.sg_gateway.specs.Taken.{HasOpen, LaterOfferIsTaken, NewOfferIsTaken}
use Rattle.sg_conduct.proofs.Acceptable.{bundle_given, value_is}
use Rattle.sg_conduct.proofs.Present.{takes_active}
use Rattle.sg_conduct.specs.Offers.{CanBeKeyed, Describes, HasLines, HasOwnMessages, IsAcceptable, IsOpen, OfferIsTaken}
use Rattle.sg_conduct.specs.Present.{HasProfileOf, TakesPart}

-- ---- what is active takes part

profile_of : (side : Side) (p : Profile) → is_of_side side p ≡ true → HasProfileOf side p
profile_of Secure Savp e = inl refl
profile_of Secure Savpf e = inr refl
profile_of Plain Avp e = inl refl
profile_of Plain Avpf e = inr refl
profile_of Secure other e = absurd cc
profile_of Plain other e = absurd cc

pub active_takes : (side : Side) (m : descriptions.Medium) → is_active side m ≡ true → TakesPart side m
active_takes side m e =
    let p = and_parts (not (eqb m.port 0)) (is_of_side side m.profile) e in
    ((λ zero. absurd (false≢true (sym (ap not (eq-eqb m.port 0 zero)) ∙ p.0))), profile_of side m.profile p.1)

some_active : (side : Side) (ms : List descriptions.Medium) → Any (TakesPart side) ms → list_any (is_active side) ms ≡ true
some_active side [] any = absurd (any_none (TakesPart side) any)
some_active side (m ∷ ms) any = elim (any_cases (TakesPart side) m ms any) [
  | inl here ↦ or_left (is_active side m) (list_any (is_active side) ms) (takes_active side m here)
  | inr later ↦ or_right (is_active side m) (list_any (is_active side) ms) (some_active side ms later)
]

-- ---- the text

addressed : (side : Side) (n : ℕ) (ms : List descriptions.Medium) → AllByRecursion (λ (m : descriptions.Medium). TakesPart side m → (ip : List ℕ) × (m.address ≡ Some ip)) ms → unaddressed side n ms ≡ None
addressed side n [] all = refl
addressed side n (m ∷ ms) all =
    cond-false (lacks_address side m) (Some n) (unaddressed side (n + 1 + length m.lines) ms) (go (is_active side m) refl) ∙ addressed side (n + 1 + length m.lines) ms all.1
  where
    go : (b : Bool) → is_active side m ≡ b → (b && is_none m.address) ≡ false
    go false is = refl
    go true is = ap is_none (all.0 (active_takes side m is)).1

text_described : (side : Side) (count : Option ℕ) (text : List ℕ) (s : Sdp) → Describes side text s → is_other_count count (length s.media) ≡ false → described side count text ≡ Ok s
unfolding described
text_described side count text s is many =
    after_ok_of _ _ s (ap of_text is.read)
    ∙ after_ok_of _ _ s (ap (with_addresses s) (addressed side (length s.session + 1) s.media is.addressed))
    ∙ stop_if_of (not (list_any (is_active side) s.media)) _ _ (not_from_true _ (some_active side s.media is.some))
    ∙ stop_if_of (is_other_count count (length s.media)) _ _ many

-- ---- each medium

if_given : {X : Type 0} (side : Side) (m : descriptions.Medium) (value : Result X Refusal) → (TakesPart side m → (x : X) × (value ≡ Ok x)) → (b : Bool) → is_active side m ≡ b
    → (x : Option X) × (if_active b value ≡ Ok x)
if_given side m value given false is = (None, refl)
if_given side m value given true is = let r = given (active_takes side m is) in (Some r.0, after_ok_of value _ r.0 r.1)

each_given : {X : Type 0} (side : Side) (Q : descriptions.Medium → Type 0) (value : ℕ → descriptions.Medium → Result X Refusal) → ((k : ℕ) (m : descriptions.Medium) → Q m → (x : X) × (value k m ≡ Ok x))
    → (k : ℕ) (ms : List descriptions.Medium) → AllByRecursion (λ m. TakesPart side m → Q m) ms → (xs : List (Option X)) × (each_active side value k ms ≡ Ok xs)
each_given side Q value given k [] all = ([], refl)
each_given side Q value given k (m ∷ ms) all =
    let one = if_given side m (value k m) (λ takes. given k m (all.0 takes)) (is_active side m) refl in
    let rest = each_given side Q value given (k + 1) ms all.1 in (
      one.0 ∷ rest.0,
      after_ok_of (if_active (is_active side m) (value k m)) _ one.0 one.1 ∙ after_ok_of (each_active side value (k + 1) ms) _ rest.0 rest.1,
    )

-- ---- lines

abbrev Read : List ℕ → Type 0
Read line = (value : List ℕ) × (l : CryptoLine) × (line ≡ codes "a=crypto:" ++ value) × (crypto_of value ≡ Ok l)

err_ok : (fault : SdesFault) (l : CryptoLine) → (let r : Result CryptoLine SdesFault = Err fault in r ≡ Ok l) → ⊥
err_ok fault l e = absurd cc

-- some line is read, so one is chosen
first_read : (lines : List (List ℕ)) → Any Read lines
    → (l : CryptoLine) × (chosen_of (filter_map (behind (codes "a=crypto:")) lines) ≡ Ok l)
unfolding chosen_of
first_read [] any = absurd (any_none Read any)
first_read (line ∷ lines) any = go (first_read lines) (behind (codes "a=crypto:") line) refl
  where
    Rest : Type 0
    Rest = Any Read lines → (l : CryptoLine) × (chosen_of (filter_map (behind (codes "a=crypto:")) lines) ≡ Ok l)

    read : Rest → (value : List ℕ) → behind (codes "a=crypto:") line ≡ Some value → (r : Result CryptoLine SdesFault) → crypto_of value ≡ r
        → (l : CryptoLine) × (or_next r (chosen_of (filter_map (behind (codes "a=crypto:")) lines)) ≡ Ok l)
    read rest value is (Ok l) e = (l, refl)
    read rest value is (Err fault) e = elim (any_cases Read line lines any) [
      | inl here ↦ absurd (err_ok fault here.1 (sym e ∙ ap crypto_of (some_is value here.0 (sym is ∙ ap (behind (codes "a=crypto:")) here.2)) ∙ here.3))
      | inr later ↦ rest later
    ]

    go : Rest → (o : Option (List ℕ)) → behind (codes "a=crypto:") line ≡ o → (l : CryptoLine) × (chosen_of (cons_option o (filter_map (behind (codes "a=crypto:")) lines)) ≡ Ok l)
    go rest None is = elim (any_cases Read line lines any) [
      | inl here ↦ absurd (none_some here.0 (sym is ∙ ap (behind (codes "a=crypto:")) here.2))
      | inr later ↦ rest later
    ]
    go rest (Some value) is = read rest value is (crypto_of value) refl

line_chosen : (k : ℕ) (m : descriptions.Medium) → ((l : CryptoLine) × HasLine m l) → (x : CryptoLine) × (chosen_in k m ≡ Ok x)
unfolding crypto_values
line_chosen k m (l, has) =
    let r = first_read m.lines (any_weaker _ _ (λ line p. (p.0, l, p.1, p.2)) m.lines has) in
    (r.0, ap (of_sdes k) r.1)

-- ---- keys

module _ (books : Books) (now : ℕ) (h : AtHand) (pairs : h.pairs ≡ books.pairs) (noted : h.noted ≡ books.noted) (moment : h.now ≡ now) (s : Sdp) where
  by_lines : HasLines s → (x : Keying) × (keying_of h s FromSecure ≡ Ok x)
  by_lines is =
      let r = each_given Secure (λ m. (l : CryptoLine) × HasLine m l) chosen_in line_chosen 0 s.media is.lines in
      (PeerLines r.0, cond-false (has_message s) _ _ (has_none s is.none) ∙ after_ok_of (each_active Secure chosen_in 0 s.media) _ r.0 r.1)

  by_message : IsAcceptable books now s.session (active_count Secure s.media) → (x : Keying) × (keying_of h s FromSecure ≡ Ok x)
  by_message is =
      let value = value_is s.session is.carried.0 is.carried.1 in
      let b = bundle_given books now s.session (active_count Secure s.media) is h 255 pairs noted moment in (
        PeerMessage b.0,
        cond-true (has_message s) _ _ (or_left (is_some (mikey_value s.session)) _ (ap is_some value))
            ∙ ap (keying_by_messages h s) value
            ∙ after_ok_of (bundle_in h 255 (active_count Secure s.media) (Some (32 ∷ is.carried.0))) _ b.0 (ap (bundle_in h 255 (active_count Secure s.media)) (sym value) ∙ b.1),
      )

  some_has : (ms : List descriptions.Medium) → Any (TakesPart Secure) ms → AllByRecursion (λ (m : descriptions.Medium). TakesPart Secure m → IsAcceptable books now m.lines 1) ms
      → list_any (λ (m : descriptions.Medium). is_some (mikey_value m.lines)) ms ≡ true
  some_has [] any all = absurd (any_none (TakesPart Secure) any)
  some_has (m ∷ ms) any all = elim (any_cases (TakesPart Secure) m ms any) [
    | inl here ↦ or_left (is_some (mikey_value m.lines)) _ (let is = all.0 here in ap is_some (value_is m.lines is.carried.0 is.carried.1))
    | inr later ↦ or_right (is_some (mikey_value m.lines)) _ (some_has ms later all.1)
  ]

  none_is : (o : Option (List ℕ)) → is_some o ≡ false → o ≡ None
  none_is None e = refl
  none_is (Some x) e = absurd cc

  by_messages : Any (TakesPart Secure) s.media → HasOwnMessages books now s → (x : Keying) × (keying_of h s FromSecure ≡ Ok x)
  by_messages some is =
      let r = each_given Secure (λ m. IsAcceptable books now m.lines 1) (λ k m. bundle_in h k 1 (mikey_value m.lines)) (λ k m a. bundle_given books now m.lines 1 a h k pairs noted moment) 0 s.media is.own in (
        PeerMessages r.0,
        cond-true (has_message s) _ _ (or_right (is_some (mikey_value s.session)) _ (some_has s.media some is.own))
            ∙ ap (keying_by_messages h s) (none_is (mikey_value s.session) (no_message s.session is.none))
            ∙ after_ok_of (each_active Secure (λ k m. bundle_in h k 1 (mikey_value m.lines)) 0 s.media) _ r.0 r.1,
      )

  pair_there : (peer : List ℕ) (ps : List Pair) → Any (λ p. p.peer ≡ peer) ps → (p : Pair) × (pair_with ps peer ≡ Some p)
  pair_there peer [] any = absurd (any_none _ any)
  pair_there peer (p ∷ ps) any = go (pair_there peer ps) (is_with peer p) refl
    where
      go : (Any (λ p. p.peer ≡ peer) ps → (q : Pair) × (pair_with ps peer ≡ Some q)) → (b : Bool) → is_with peer p ≡ b → (q : Pair) × (cond b (Some p) (pair_with ps peer) ≡ Some q)
      go rest true is = (p, refl)
      go rest false is = elim (any_cases (λ p. p.peer ≡ peer) p ps any) [
        | inl here ↦ absurd (false≢true (sym is ∙ same_octets_true p.peer peer here))
        | inr later ↦ rest later
      ]

  keyed_by : (way : Way) → Any (TakesPart (side_of way)) s.media → CanBeKeyed books now s way → (x : Keying) × (keying_of h s way ≡ Ok x)
  keyed_by FromSecure some can = elim can [
    | inl lines ↦ by_lines lines
    | inr messages ↦ elim messages [
      | inl one ↦ by_message one
      | inr own ↦ by_messages some own
    ]
  ]
  keyed_by SdesFromPlain some can =
      let r = each_given Plain (λ m. Unit {0}) (λ k m. Ok (offered_by (noise_of k h.noise))) (λ k m u. (offered_by (noise_of k h.noise), refl)) 0 s.media (each_of _ (λ m takes. tt) s.media) in
      (OwnLines r.0, after_ok_of (each_active Plain (λ k m. Ok (offered_by (noise_of k h.noise))) 0 s.media) _ r.0 r.1)
  keyed_by (MikeyFromPlain peer) some can =
      let p = pair_there peer books.pairs can in
      let sent : Sent = sent_of p.0 h.now h.noise (ssrcs_of Plain s.media) in (
        OwnMessage sent,
        after_ok_of (of_psk 255 (sent_under h.now h.noise (ssrcs_of Plain s.media) (pair_with h.pairs peer))) _ sent
            (ap (λ o. of_psk 255 (sent_under h.now h.noise (ssrcs_of Plain s.media) o)) (ap (λ ps. pair_with ps peer) pairs ∙ p.1)),
      )

-- ---- the offer

abbrev IsOf : Way → Sdp → AgreedOffer → Type 0
IsOf way s a = (a.offer.side ≡ side_of way) × (a.offer.description ≡ s) × (a.media ≡ length s.media)

agreed : (w : World) (c : Call) (way : Way) (noise text : List ℕ) (s : Sdp) → Describes (side_of way) text s → CanBeKeyed w.books w.moment s way → is_other_count (media_of c) (length s.media) ≡ false
    → (a : AgreedOffer) × (agreed_offer (at_hand w.moment w.books c noise) way text ≡ Ok a) × IsOf way s a
unfolding agreed_offer
agreed w c way noise text s is can many =
    let h : AtHand = at_hand w.moment w.books c noise in
    let d = text_described (side_of way) (media_of c) text s is many in
    let k = keyed_by w.books w.moment h refl refl refl s way is.some can in (
      accepted_offer c.slot (record { side = side_of way; description = s; keying = k.0 }),
      after_ok_of (described (side_of way) (media_of c) text) _ s d ∙ after_ok_of (keying_of h s way) _ k.0 k.1,
      (refl, refl, refl),
    )

opened : (w : World) (id : CallId) (generations : ℕ) (way : Way) (s : Sdp) (a : AgreedOffer) → IsOf way s a → HasOpen w id generations a → IsOpen w id generations (side_of way) s
opened w id generations way s a of has = record {
  call = has.call;
  found = has.found;
  same = has.same;
  offer = a.offer;
  open_now = has.offer;
  of_side = of.0;
  of_text = of.1;
  heard = has.heard;
}

as_many : (c : Call) (count : ℕ) → count ≡ c.media → is_other_count (media_of c) count ≡ false
as_many c count same = go (has_begun c)
  where
    go : (b : Bool) → is_other_count (cond b (Some c.media) None) count ≡ false
    go true = ap not (eq-eqb count c.media same)
    go false = refl

pub offer_taken : (t : Turn) → NewOfferIsTaken t × LaterOfferIsTaken t → OfferIsTaken t
offer_taken t (new, later) = (
  λ id way noise text s event none room is can.
      let a = agreed t.before (new_call t.before id) way noise text s is can refl in
      let r = new id way noise text a.0 event none room a.1 in (
        opened (after_turn t) id 0 way s a.0 a.2 r.0,
        (a.0.text, r.1 ∙ ap (λ count. outcomes.Made id (new_call t.before id).slot count ∷ (outcomes.Sdp id (other_side (side_of way)) a.0.text ∷ [])) a.2.2),
      ),
  λ id way noise text c s event there by_offers closed many is can.
      let a = agreed t.before c way noise text s is can (as_many c (length s.media) many) in
      let r = later id way noise text c a.0 event there by_offers closed a.1 in
      (opened (after_turn t) id c.generations way s a.0 a.2 r.0, (a.0.text, r.1)),
)
