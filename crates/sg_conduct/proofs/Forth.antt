-- An offer that isn't refused is told as it came, and is open.
use Rattle.std.proofs.Common.{◌≡◌, ◌⊎◌, inl, inr, ℕ, ◌+◌, ◌<◌, Bool, true, false, cond, not, ◌||◌, ltb, ltb-true, List, [], ◌∷◌, ◌++◌, length, map, codes, Option, Some, None, Result, Ok, Err, refl, sym, ap, ◌∙◌, subst}
use Rattle.std.proofs.lemmas.Bool.{false≢true}
use Rattle.std.specs.List.{AllByRecursion, Any, cons_option, filter, filter_map, find}
use Rattle.std.specs.Option.{is_some}
use Rattle.sg_agreement.proofs.KeyedSound.{sdes_is}
use Rattle.sg_agreement.proofs.MessagesSound.{psk_is}
use Rattle.sg_agreement.proofs.TextLines.{behind_is, has_none}
use Rattle.sg_agreement.specs.Attributes.{behind, crypto_values, has_message, mikey_value, own_ssrc, ssrcs_of}
use Rattle.sg_agreement.specs.CarriedTexts.{Added, carried_text, crypto_attribute, exchanged, nothing, ports_from, with_added}
use Rattle.sg_agreement.specs.Described.{described}
use Rattle.sg_agreement.specs.Keying.{Keying, PeerLines, OwnLines, PeerMessage, PeerMessages, OwnMessage, Offer, added_by}
use Rattle.sg_agreement.specs.Keying as keyings
use Rattle.sg_agreement.specs.Messages.{AtHand, bundle_in}
use Rattle.sg_agreement.specs.Offers.{AgreedOffer, accepted_offer, agreed_offer, chosen_in, keying_by_messages, keying_of, noise_of}
use Rattle.sg_agreement.specs.Sides.{active_count, actives, is_active, other_side, side_of}
use Rattle.sg_base.specs.declared.faults.Refusal.TheVariants.{State, TableFull}
use Rattle.sg_base.specs.declared.faults.SdesFault.{SdesFault}
use Rattle.sg_outcome.specs.declared.outcomes.Outcome.TheVariants.{Made, Refused, Sdp}
use Rattle.sg_psk.specs.Sending.{Sent, initial_octets, own_map, sent_of, sent_under}
use Rattle.sg_psk.specs.Stamps.{stamp_of}
use Rattle.sg_sdes.specs.Answers.{chosen_of, offered_by, or_next}
use Rattle.sg_sdes.specs.CryptoOf.{crypto_of}
use Rattle.sg_sdp.specs.Addresses.{first_address}
use Rattle.sg_sdp.specs.Carrying.{carried, carried_lines}
use Rattle.sg_sdp.specs.declared.medium.Medium as descriptions
use Rattle.sg_sdp.specs.declared.sdp.Sdp as sdp
use Rattle.sg_gateway.proofs.Common.{Call, CallId, CryptoLine, Event, FromSecure, IsRefusal, IsRefused, MikeyFromPlain, Pair, Plain, Refusal, SdesFromPlain}
use Rattle.sg_gateway.proofs.Common.{Secure, Settled, Side, Signalled, Turn, Way, World, after_ok, after_ok_is, after_turn, any_here, call_of, described_is}
use Rattle.sg_gateway.proofs.Common.{description_of, each_active, each_weaker, if_active, is_with, none_some, of_psk, ok_is, pair_with, same_octets_true}
use Rattle.sg_gateway.proofs.Common.{some_is, step, stop_if_is, turn_of, turns_from}
use Rattle.sg_gateway.proofs.Sources.{first_source}
use Rattle.sg_gateway.specs.CallSignals.{at_hand, offered_in, takes_offer}
use Rattle.sg_gateway.specs.Signals.{Offered, Answer, in_new, in_old, new_call, offered_to, refused, tells_text}
use Rattle.sg_gateway.specs.Taken.{HasOpen, IsAgreed, LaterOfferIsTaken, NewOfferIsTaken}
use Rattle.sg_conduct.proofs.Carried.{AreAdded, attributes_are, lines_carried, media_carried}
use Rattle.sg_conduct.proofs.Drawn.{sent_drawn}
use Rattle.sg_conduct.proofs.Offers.{active_takes}
use Rattle.sg_conduct.proofs.OwnPayloads.{initial_is}
use Rattle.sg_conduct.proofs.Present.{takes_active}
use Rattle.sg_conduct.specs.Carried.{AddsToMedium, AddsToSession, AreOfMedia, AreSessionsOf, IsFirstLine, IsFirstWith, IsKeyed, IsOfMedium, IsOpenOffer, IsOwnMessage, IsToldForth, OfferIsCarried, OfferMakes, OfferOpens, lines_of}
use Rattle.sg_conduct.specs.Drawn.{IsDrawn, noise_for}
use Rattle.sg_conduct.specs.OwnPayloads.{IsInitial}

-- ---- each medium

each_of_media : {X : Type 0} (Is : ℕ → descriptions.Medium → X → Type 0) (side : Side) (value : ℕ → descriptions.Medium → Result X Refusal)
    → ((k : ℕ) (m : descriptions.Medium) (x : X) → value k m ≡ Ok x → Is k m x) → (k : ℕ) (ms : List descriptions.Medium) (xs : List (Option X)) → each_active side value k ms ≡ Ok xs → AreOfMedia Is side k ms xs
each_of_media Is side value given k [] xs e = sym (ok_is [] xs e)
each_of_media {X} Is side value given k (m ∷ ms) xs e =
    let a = after_ok_is (if_active (is_active side m) (value k m)) _ xs e in
    let b = after_ok_is (each_active side value (k + 1) ms) _ xs a.2 in
    (a.0, b.0, sym (ok_is (a.0 ∷ b.0) xs b.2), go (is_active side m) refl a.0 a.1, each_of_media Is side value given (k + 1) ms b.0 b.1)
  where
    go : (b : Bool) → is_active side m ≡ b → (o : Option X) → if_active b (value k m) ≡ Ok o → IsOfMedium Is side k m o
    go false is o e = subst (IsOfMedium Is side k m) (ok_is None o e) (λ takes. false≢true (sym is ∙ takes_active side m takes))
    go true is o e =
        let x = after_ok_is (value k m) _ o e in
        subst (IsOfMedium Is side k m) (ok_is (Some x.0) o x.2) (active_takes side m is, given k m x.0 x.1)

-- ---- the first line that is read

err_ok : (fault : SdesFault) (l : CryptoLine) → (let r : Result CryptoLine SdesFault = Err fault in r ≡ Ok l) → ⊥
err_ok fault l e = absurd cc

first_read : (lines : List (List ℕ)) (l : CryptoLine) → chosen_of (filter_map (behind (codes "a=crypto:")) lines) ≡ Ok l → IsFirstLine lines l
unfolding chosen_of
first_read [] l e = absurd cc
first_read (line ∷ lines) l e = go (first_read lines l) (behind (codes "a=crypto:") line) refl e
  where
    Rest : Type 0
    Rest = chosen_of (filter_map (behind (codes "a=crypto:")) lines) ≡ Ok l → IsFirstLine lines l

    later : IsFirstLine lines l → ((v : List ℕ) (other : CryptoLine) → line ≡ codes "a=crypto:" ++ v → ¬ crypto_of v ≡ Ok other) → IsFirstLine (line ∷ lines) l
    later is none = record { before = line ∷ is.before; value = is.value; behind = is.behind; parts = ap (λ (ls : List (List ℕ)). line ∷ ls) is.parts; read = is.read; none = (none, is.none) }

    read : Rest → (value : List ℕ) → behind (codes "a=crypto:") line ≡ Some value → (r : Result CryptoLine SdesFault) → crypto_of value ≡ r
        → or_next r (chosen_of (filter_map (behind (codes "a=crypto:")) lines)) ≡ Ok l → IsFirstLine (line ∷ lines) l
    read rest value is (Ok x) e n = record {
      before = [];
      value = value;
      behind = lines;
      parts = ap (λ (x : List ℕ). x ∷ lines) (behind_is (codes "a=crypto:") line value is);
      read = e ∙ n;
      none = tt;
    }
    read rest value is (Err fault) e n = later (rest n) (λ v other same said. err_ok fault other (sym e ∙ ap crypto_of (some_is value v (sym is ∙ ap (behind (codes "a=crypto:")) same)) ∙ said))

    go : Rest → (o : Option (List ℕ)) → behind (codes "a=crypto:") line ≡ o → chosen_of (cons_option o (filter_map (behind (codes "a=crypto:")) lines)) ≡ Ok l → IsFirstLine (line ∷ lines) l
    go rest None is n = later (rest n) (λ v other same said. none_some v (sym is ∙ ap (behind (codes "a=crypto:")) same))
    go rest (Some value) is n = read rest value is (crypto_of value) refl n

pub first_line : (k : ℕ) (m : descriptions.Medium) (l : CryptoLine) → chosen_in k m ≡ Ok l → IsFirstLine m.lines l
unfolding crypto_values
first_line k m l e = first_read m.lines l (sdes_is k (chosen_of (crypto_values m.lines)) l e)

-- ---- the gateway's own lines

lines_added : (noise : List ℕ) (k : ℕ) (ms : List descriptions.Medium) (ls : List (Option (List CryptoLine))) → AreOfMedia (λ number m l. l ≡ lines_of (noise_for number noise)) Plain k ms ls
    → AreAdded SdesFromPlain noise k ms (map keyings.attributes_of ls)
lines_added noise k [] ls are = tt
lines_added noise k (m ∷ ms) ls are =
    subst (λ ls. AreAdded SdesFromPlain noise k (m ∷ ms) (map keyings.attributes_of ls)) (sym are.2) (go are.0 are.3, lines_added noise (k + 1) ms are.1 are.4)
  where
    go : (o : Option (List CryptoLine)) → IsOfMedium (λ number m l. l ≡ lines_of (noise_for number noise)) Plain k m o → AddsToMedium SdesFromPlain noise k m (keyings.attributes_of o)
    go None is = inr (is, refl)
    go (Some l) is = inl (is.0, ap (map crypto_attribute) is.1 ∙ attributes_are (noise_for k noise))

none_added : (way : Way) (noise : List ℕ) → ((k : ℕ) (m : descriptions.Medium) → AddsToMedium way noise k m []) → (k : ℕ) (ms : List descriptions.Medium) → AreAdded way noise k ms []
none_added way noise none k [] = tt
none_added way noise none k (m ∷ ms) = (none k m, none_added way noise none (k + 1) ms)

-- ---- the gateway's own message

pub find_first : {X : Type 0} (test : X → Bool) (xs : List X) (x : X) → find test xs ≡ Some x
    → (before behind : List X) × (xs ≡ before ++ x ∷ behind) × AllByRecursion (λ y. test y ≡ false) before
find_first test [] x e = absurd cc
find_first {X} test (y ∷ ys) x e = go (find_first test ys x) (test y) refl e
  where
    go : (find test ys ≡ Some x → (before behind : List X) × (ys ≡ before ++ x ∷ behind) × AllByRecursion (λ y. test y ≡ false) before) → (b : Bool) → test y ≡ b → cond b (Some y) (find test ys) ≡ Some x
        → (before behind : List X) × (y ∷ ys ≡ before ++ x ∷ behind) × AllByRecursion (λ y. test y ≡ false) before
    go rest true is e = ([], ys, ap (λ (z : X). z ∷ ys) (some_is y x e), tt)
    go rest false is e = let r = rest e in (y ∷ r.0, r.1, ap (λ (zs : List X). y ∷ zs) r.2, (is, r.3))

first_with : (pairs : List Pair) (peer : List ℕ) (pair : Pair) → pair_with pairs peer ≡ Some pair → IsFirstWith pairs peer pair
first_with pairs peer pair e =
    let r = find_first (is_with peer) pairs pair e in
    (r.0, r.1, r.2, each_weaker (λ p. is_with peer p ≡ false) (λ p. ¬ p.peer ≡ peer) (λ p is same. false≢true (sym is ∙ same_octets_true p.peer peer same)) r.0 r.3)

sessions_of : (ms : List descriptions.Medium) → AreSessionsOf ms (own_map (ssrcs_of Plain ms))
unfolding own_map
sessions_of [] = refl
sessions_of (m ∷ ms) = go (is_active Plain m) refl (sessions_of ms)
  where
    go : (b : Bool) → is_active Plain m ≡ b → AreSessionsOf ms (own_map (ssrcs_of Plain ms))
        → AreSessionsOf (m ∷ ms) (own_map (map (λ (m : descriptions.Medium). own_ssrc m.lines) (cond b (m ∷ filter (is_active Plain) ms) (filter (is_active Plain) ms))))
    go true is rest = inl (active_takes Plain m is, (own_ssrc m.lines, own_map (ssrcs_of Plain ms), first_source m.lines, refl, rest))
    go false is rest = inr ((λ takes. false≢true (sym is ∙ takes_active Plain m takes)), rest)

own_message : (w : World) (peer noise : List ℕ) (s : sdp.Sdp) (o : Option Pair) (sent : Sent) → pair_with w.books.pairs peer ≡ o → sent_under w.moment noise (ssrcs_of Plain s.media) o ≡ Ok sent
    → IsOwnMessage w peer noise s sent
unfolding stamp_of
own_message w peer noise s None sent at e = absurd cc
own_message w peer noise s (Some pair) sent at e =
    let drawn = sent_drawn w.books.pairs peer w.moment noise (ssrcs_of Plain s.media) (Some pair) sent at e in
    let same = ok_is (sent_of pair w.moment noise (ssrcs_of Plain s.media)) sent e in
    subst (IsOwnMessage w peer noise s) same (record {
      drawn = subst (IsDrawn w.books.pairs peer noise) (sym same) drawn;
      pair = first_with w.books.pairs peer pair at;
      stamp = refl;
      spis = refl;
      sessions = sessions_of s.media;
    })

own_initial : (pair : Option Pair) (now : ℕ) (noise ssrcs : List ℕ) (sent : Sent) → sent_under now noise ssrcs pair ≡ Ok sent → IsInitial sent (initial_octets sent)
own_initial None now noise ssrcs sent e = absurd cc
own_initial (Some pair) now noise ssrcs sent e =
    subst (λ (sent : Sent). IsInitial sent (initial_octets sent)) (ok_is (sent_of pair now noise ssrcs) sent e) (initial_is pair now noise ssrcs)

-- ---- how the offer is keyed

record Keys (w : World) (way : Way) (noise : List ℕ) (s : sdp.Sdp) (k : Keying) : Type 0 where
  keyed : IsKeyed w way noise s k
  session : AddsToSession w way noise s (added_by k).session
  media : AreAdded way noise 0 s.media (added_by k).media

messages_add : (h : AtHand) (s : sdp.Sdp) (value : Option (List ℕ)) (k : Keying) → keying_by_messages h s value ≡ Ok k → added_by k ≡ nothing
messages_add h s (Some value) k e =
    let a = after_ok_is (bundle_in h 255 (active_count Secure s.media) (Some value)) _ k e in ap added_by (sym (ok_is (PeerMessage a.0) k a.2))
messages_add h s None k e =
    let a = after_ok_is (each_active Secure (λ k m. bundle_in h k 1 (mikey_value m.lines)) 0 s.media) _ k e in ap added_by (sym (ok_is (PeerMessages a.0) k a.2))

module _ (w : World) (c : Call) (noise : List ℕ) (s : sdp.Sdp) where
  abbrev hand : AtHand
  hand = at_hand w.moment w.books c noise

  secure_keys : (k : Keying) → keying_of hand s FromSecure ≡ Ok k → Keys w FromSecure noise s k
  secure_keys k e = go (has_message s) refl e
    where
      none : AreAdded FromSecure noise 0 s.media []
      none = none_added FromSecure noise (λ k m. refl) 0 s.media

      go : (b : Bool) → has_message s ≡ b → cond b (keying_by_messages hand s (mikey_value s.session)) (after_ok (each_active Secure chosen_in 0 s.media) (λ ls. Ok (PeerLines ls))) ≡ Ok k → Keys w FromSecure noise s k
      go true is e =
          let adds = messages_add hand s (mikey_value s.session) k e in
          record { keyed = λ has_no. absurd (false≢true (sym (has_none s has_no) ∙ is)); session = ap (λ (x : Added). x.session) adds; media = subst (λ (x : Added). AreAdded FromSecure noise 0 s.media x.media) (sym adds) none }
      go false is e =
          let a = after_ok_is (each_active Secure chosen_in 0 s.media) _ k e in
          subst (Keys w FromSecure noise s) (ok_is (PeerLines a.0) k a.2)
          (record { keyed = λ has_no. (a.0, refl, each_of_media (λ number m l. IsFirstLine m.lines l) Secure chosen_in first_line 0 s.media a.0 a.1); session = refl; media = none })

  plain_keys : (k : Keying) → keying_of hand s SdesFromPlain ≡ Ok k → Keys w SdesFromPlain noise s k
  plain_keys k e =
      let a = after_ok_is (each_active Plain (λ k m. Ok (offered_by (noise_of k noise))) 0 s.media) _ k e in
      let are = each_of_media (λ number m l. l ≡ lines_of (noise_for number noise)) Plain (λ k m. Ok (offered_by (noise_of k noise))) (λ k m x is. sym (ok_is (offered_by (noise_of k noise)) x is)) 0 s.media a.0 a.1 in
      subst (Keys w SdesFromPlain noise s) (ok_is (OwnLines a.0) k a.2) (record { keyed = (a.0, refl, are); session = refl; media = lines_added noise 0 s.media a.0 are })

  message_keys : (peer : List ℕ) (k : Keying) → keying_of hand s (MikeyFromPlain peer) ≡ Ok k → Keys w (MikeyFromPlain peer) noise s k
  message_keys peer k e =
      let a = after_ok_is (of_psk 255 (sent_under w.moment noise (ssrcs_of Plain s.media) (pair_with w.books.pairs peer))) _ k e in
      let is = own_message w peer noise s (pair_with w.books.pairs peer) a.0 refl (psk_is 255 _ a.0 a.1) in
      let initial = own_initial (pair_with w.books.pairs peer) w.moment noise (ssrcs_of Plain s.media) a.0 (psk_is 255 _ a.0 a.1) in
      subst (Keys w (MikeyFromPlain peer) noise s) (ok_is (OwnMessage a.0) k a.2)
      (record { keyed = (a.0, refl, is); session = (a.0, is, (initial_octets a.0, initial, refl)); media = none_added (MikeyFromPlain peer) noise (λ k m. refl) 0 s.media })

  keys : (way : Way) (k : Keying) → keying_of hand s way ≡ Ok k → Keys w way noise s k
  keys FromSecure k e = secure_keys k e
  keys SdesFromPlain k e = plain_keys k e
  keys (MikeyFromPlain peer) k e = message_keys peer k e

-- ---- the text

record Forth (w : World) (slot : ℕ) (way : Way) (noise text : List ℕ) (a : AgreedOffer) : Type 0 where
  s : sdp.Sdp
  read : description_of text ≡ Ok s
  side : a.offer.side ≡ side_of way
  of_text : a.offer.description ≡ s
  count : a.media ≡ length s.media
  keyed : IsKeyed w way noise s a.offer.keying
  told : IsToldForth w slot way noise s a.text

forth : (w : World) (c : Call) (way : Way) (noise text : List ℕ) (a : AgreedOffer) → IsAgreed w c way noise text a → Forth w c.slot way noise text a
unfolding agreed_offer carried_text
forth w c way noise text a e =
    let h : AtHand = at_hand w.moment w.books c noise in
    let p = after_ok_is (described (side_of way) h.media text) _ a e in
    let q = after_ok_is (keying_of h p.0 way) _ a p.2 in
    let k = keys w c noise p.0 way q.0 q.1 in
    subst (Forth w c.slot way noise text) (ok_is (accepted_offer c.slot (record { side = side_of way; description = p.0; keying = q.0 })) a q.2) (record {
      s = p.0;
      read = described_is (side_of way) h.media text p.0 p.1;
      side = refl;
      of_text = refl;
      count = refl;
      keyed = k.keyed;
      told = record {
        told = with_added (added_by q.0)
            (carried (ports_from c.slot 0 (other_side (side_of way)) (actives (side_of way) p.0.media)) (map (λ (m : descriptions.Medium). exchanged m.profile) p.0.media) p.0);
        spells = refl;
        added = (added_by q.0).session;
        adds = k.session;
        session = lines_carried p.0.session (added_by q.0).session;
        media = media_carried way c.slot noise (first_address (carried_lines p.0.session)) 0 p.0.media (added_by q.0).media k.media;
      };
    })

-- ---- a turn

can_take : (manual : Bool) (o : Option Offer) → not (not (manual || is_some o)) ≡ false → (manual ≡ false) × (o ≡ None)
can_take true o e = absurd cc
can_take false (Some x) e = absurd cc
can_take false None e = (refl, refl)

module _ (w : World) (id : CallId) (way : Way) (noise text : List ℕ) where
  abbrev this : Turn
  this = turn_of w (Signalled (Offered id way noise text))

  abbrev Agrees : Type 0
  Agrees = ((call_of w id ≡ None) × (length w.calls < 256) × ((a : AgreedOffer) × IsAgreed w (new_call w id) way noise text a))
      ⊎ ((c : Call) × (call_of w id ≡ Some c) × (c.manual ≡ false) × (c.offer ≡ None) × ((a : AgreedOffer) × IsAgreed w c way noise text a))

  abbrev Unrefused : Answer → Type 0
  Unrefused a = ¬ Any IsRefusal a.outcomes → Agrees

  no_refusal : (cause : Refusal) → Unrefused (refused w (Some id) cause)
  no_refusal cause taken = absurd (taken (any_here IsRefusal (Refused (Some id) cause) [] tt))

  new_agrees : call_of w id ≡ None → length w.calls < 256 → (q : Result Settled Refusal) → offered_in w.moment w.books (new_call w id) way noise text ≡ q
      → Unrefused (in_new w id (tells_text id (other_side (side_of way))) q)
  new_agrees none room (Err cause) e = no_refusal cause
  new_agrees none room (Ok r) e = λ taken.
      let a = stop_if_is (not (takes_offer (new_call w id))) State _ r e in
      let b = after_ok_is (agreed_offer (at_hand w.moment w.books (new_call w id) noise) way text) _ r a.1 in
      inl (none, room, (b.0, b.1))

  old_agrees : (c : Call) → call_of w id ≡ Some c → (q : Result Settled Refusal) → offered_in w.moment w.books c way noise text ≡ q → Unrefused (in_old w id (tells_text id (other_side (side_of way))) q)
  old_agrees c at (Err cause) e = no_refusal cause
  old_agrees c at (Ok r) e = λ taken.
      let a = stop_if_is (not (takes_offer c)) State _ r e in
      let b = after_ok_is (agreed_offer (at_hand w.moment w.books c noise) way text) _ r a.1 in
      let can = can_take c.manual c.offer a.0 in
      inr (c, at, can.0, can.1, (b.0, b.1))

  call_agrees : (o : Option Call) → call_of w id ≡ o → Unrefused (offered_to w id way noise text o)
  call_agrees None none = go (ltb (length w.calls) 256) refl
    where
      go : (b : Bool) → ltb (length w.calls) 256 ≡ b
          → Unrefused (cond (not b) (refused w (Some id) TableFull) (in_new w id (tells_text id (other_side (side_of way))) (offered_in w.moment w.books (new_call w id) way noise text)))
      go false is = no_refusal TableFull
      go true is = new_agrees none (ltb-true (length w.calls) 256 is) (offered_in w.moment w.books (new_call w id) way noise text) refl
  call_agrees (Some c) at = old_agrees c at (offered_in w.moment w.books c way noise text) refl

  open_offer : (n slot : ℕ) (a : AgreedOffer) (f : Forth w slot way noise text a) → HasOpen (after_turn this) id n a → IsOpenOffer w (after_turn this) id n way noise f.s
  open_offer n slot a f has = (
    record { call = has.call; found = has.found; same = has.same; offer = a.offer; open_now = has.offer; of_side = f.side; of_text = f.of_text; heard = has.heard },
    f.keyed,
  )

  carries : NewOfferIsTaken this × LaterOfferIsTaken this → ¬ IsRefused this → (s : sdp.Sdp) × (description_of text ≡ Ok s) × (OfferMakes this id way noise s ⊎ OfferOpens this id way noise s)
  carries (new, later) taken = elim (call_agrees (call_of w id) refl taken) [
    | inl x ↦
        let a : AgreedOffer = x.2.0 in
        let f = forth w (new_call w id) way noise text a x.2.1 in
        let r = new id way noise text a refl x.0 x.1 x.2.1 in (
          f.s,
          f.read,
          inl (
            x.0,
            open_offer 0 (new_call w id).slot a f r.0,
            (a.text, r.1 ∙ ap (λ n. Made id (new_call w id).slot n ∷ (Sdp id (other_side (side_of way)) a.text ∷ [])) f.count, f.told),
          ),
        )
    | inr x ↦
        let a : AgreedOffer = x.4.0 in
        let f = forth w x.0 way noise text a x.4.1 in
        let r = later id way noise text x.0 a refl x.1 x.2 x.3 x.4.1 in
        (f.s, f.read, inr (x.0, x.1, x.2, x.3, open_offer x.0.generations x.0.slot a f r.0, (a.text, r.1, f.told)))
  ]

offer_carried : (w : World) (e : Event) → NewOfferIsTaken (turn_of w e) × LaterOfferIsTaken (turn_of w e) → OfferIsCarried (turn_of w e)
offer_carried w e laws id way noise text same =
    subst (λ e. NewOfferIsTaken (turn_of w e) × LaterOfferIsTaken (turn_of w e) → ¬ IsRefused (turn_of w e)
    → (s : sdp.Sdp) × (description_of text ≡ Ok s) × (OfferMakes (turn_of w e) id way noise s ⊎ OfferOpens (turn_of w e) id way noise s)) (sym same) (carries w id way noise text) laws

pub each_carried : (w : World) (es : List Event) → AllByRecursion (λ t. NewOfferIsTaken t × LaterOfferIsTaken t) (turns_from w es) → AllByRecursion OfferIsCarried (turns_from w es)
each_carried w [] laws = tt
each_carried w (e ∷ es) laws = (offer_carried w e laws.0, each_carried (step w e).world es laws.1)
