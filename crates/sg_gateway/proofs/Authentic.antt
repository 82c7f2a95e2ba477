-- What is accepted of MIKEY messages is authentic, of the time and new, and is noted.
use Rattle.std.proofs.Common.{◌≡◌, inl, inr, ℕ, ◌+◌, ◌-◌, ◌≤◌, ◌<◌, Bool, true, false, cond, not, ◌&&◌, ◌||◌, List, [], ◌∷◌, ◌++◌, length, Option, Some, None, Result, Ok, Err, refl, sym, ap, ◌∙◌, subst, append_assoc, append-nil, eqb, eq-eqb, ltb, eqb-true, arith}
use Rattle.std.proofs.lemmas.Bool.{and_parts, false≢true, ltb-false, ltb-true, not-false, and_from}
use Rattle.std.specs.List.{AllByRecursion, Any, filter_map, find}
use Rattle.sg_agreement.proofs.Inversions.{or_refusal_is}
use Rattle.sg_agreement.proofs.MessagesSound.{psk_is}
use Rattle.sg_agreement.proofs.KeyedSound.{Sometimes}
use Rattle.sg_agreement.specs.Attributes.{has_message, mikey_octets, mikey_value, ssrcs_of}
use Rattle.sg_agreement.specs.Described.{described}
use Rattle.sg_agreement.specs.Keying.{Keying, PeerLines, OwnLines, PeerMessage, PeerMessages, OwnMessage, Offer, note_in, notes_of}
use Rattle.sg_agreement.specs.Messages.{Bundle, bundle_in, message_in}
use Rattle.sg_agreement.specs.Offers.{AgreedOffer, agreed_offer, chosen_in, keying_by_messages, keying_of, noise_of}
use Rattle.sg_base.specs.declared.faults.MikeyFault.TheVariants.{DataType}
use Rattle.sg_base.specs.declared.faults.PskFault.{PskFault}
use Rattle.sg_base.specs.declared.faults.PskFault.TheVariants.{Algorithm, BadMac, Skew, Repeated, CacheFull}
use Rattle.sg_base.specs.declared.faults.Refusal.TheVariants.{KeyMgmt, Mikey}
use Rattle.sg_csmap.specs.CryptoSessions.{streams_of}
use Rattle.sg_mikey.specs.Reading as messages
use Rattle.sg_psk.specs.Accepting.{Accepted, accepted_with, fault_of, initial_fits, initial_of, initial_under, is_served, keys_in, note_of, unless, with_keys}
use Rattle.sg_psk.specs.Envelope.{mac_of}
use Rattle.sg_sdes.specs.Answers.{offered_by}
use Rattle.sg_sdp.specs.declared.medium.Medium as descriptions
use Rattle.sg_sdp.specs.declared.sdp.Sdp.{Sdp}
use Rattle.sg_psk.specs.Pairs.{is_noted, is_of, is_same, is_with, note, pair_named, pair_with, with_note}
use Rattle.sg_psk.specs.Parts.{closing_in, names_in, stamp_in}
use Rattle.sg_psk.specs.Sending.{sent_under}
use Rattle.sg_psk.specs.Stamps.{is_skewed, moment_of}
use Rattle.sg_psk.specs.declared.replays.Noted.{Noted}
use Rattle.sg_gateway.proofs.Common.{Answer, Books, Call, CallId, FromSecure, IsRefusal, Message, MikeyFromPlain, Offered, Pair, Plain, Refusal, SdesFromPlain}
use Rattle.sg_gateway.proofs.Common.{Secure, Tgk, Way, World, active_count, after_ok, after_ok_is, answer_to, any_here, any_there, call_of, description_of}
use Rattle.sg_gateway.proofs.Common.{each_active, each_weaker, if_active, is_active, new_call, of_cs, of_message, of_psk, offer_is, ok_is, or_refusal, same_id}
use Rattle.sg_gateway.proofs.Common.{same_octets, same_octets_is, same_octets_true, side_of, some_is, stop_if_is}
use Rattle.sg_gateway.specs.Authentic.{AreNamesOf, IsNoteOf, IsAuthentic, IsBundleAcceptedOnce, IsTimely, AreAcceptedOnce, milliseconds_of}
use Rattle.sg_gateway.proofs.CarriedOut.{found_with, id_found}
use Rattle.sg_gateway.proofs.Lists.{any_last, any_first}
use Rattle.sg_gateway.proofs.StepCases.{each_offer, settled_offer}
use Rattle.sg_gateway.proofs.Taken.{found_new, same_id_itself}
use Rattle.sg_gateway.specs.CallSignals.{at_hand, media_of, with_notes}

-- ---- stages

pub none_unless : {X : Type 0} (b : Bool) (x : X) (r : Option X) → cond b (Some x) r ≡ None → (b ≡ false) × (r ≡ None)
none_unless true x r e = absurd cc
none_unless false x r e = (refl, e)

pub unless_is : {X : Type 0} (fault : Option PskFault) (next : Result X PskFault) (x : X) → unless fault next ≡ Ok x → (fault ≡ None) × (next ≡ Ok x)
unless_is None next x e = (refl, e)
unless_is (Some fault) next x e = absurd cc

pub message_is : (medium : ℕ) (r : Result Message messages.Place) (m : Message) → of_message medium r ≡ Ok m → r ≡ Ok m
message_is medium (Ok y) m e = let same : y ≡ m = cc in ap Ok same
message_is medium (Err place) m e = absurd cc

-- ---- the time

within : (a b : ℕ) → (a - b) + (b - a) ≤ 300000 → (b ≤ a + 300000) × (a ≤ b + 300000)
within a b near = (omega (arith, near), omega (arith, near))

beyond : (a b : ℕ) → 300000 < (a - b) + (b - a) → ¬ ((b ≤ a + 300000) × (a ≤ b + 300000))
beyond a b far both = let low = both.0 in let high = both.1 in omega (arith, far, low, high)

pub timely : (stamp : List ℕ) (now : ℕ) → is_skewed stamp now ≡ false → IsTimely now stamp
timely stamp now e = within (milliseconds_of stamp) (now + 2208988800000) (ltb-false 300000 _ e)

pub not_timely : (stamp : List ℕ) (now : ℕ) → is_skewed stamp now ≡ true → ¬ IsTimely now stamp
not_timely stamp now e = beyond (milliseconds_of stamp) (now + 2208988800000) (ltb-true 300000 _ e)

-- ---- the pair

pub find_any : {X : Type 0} (test : X → Bool) (xs : List X) (x : X) → find test xs ≡ Some x → Any (λ y. y ≡ x) xs × (test x ≡ true)
find_any test [] x e = absurd cc
find_any test (y ∷ ys) x e = go (test y) refl (find_any test ys x) e
  where
    go : (b : Bool) → test y ≡ b → (find test ys ≡ Some x → Any (λ z. z ≡ x) ys × (test x ≡ true)) → cond b (Some y) (find test ys) ≡ Some x → Any (λ z. z ≡ x) (y ∷ ys) × (test x ≡ true)
    go true is rest e = (any_here (λ z. z ≡ x) y ys (some_is y x e), subst (λ z. test z ≡ true) (some_is y x e) is)
    go false is rest e = let r = rest e in (any_there (λ z. z ≡ x) y ys r.0, r.1)

pub pair_is : (pairs : List Pair) (names : List (List ℕ)) (p : Pair) → pair_named pairs names ≡ Some p → Any (λ q. q ≡ p) pairs × AreNamesOf p names
pair_is pairs [] p e = absurd cc
pair_is pairs (peer ∷ []) p e =
    let f = find_any (is_with peer) pairs p e in
    (f.0, inl (ap (λ n. n ∷ []) (sym (same_octets_is p.peer peer f.1))))
pair_is pairs (peer ∷ own ∷ names) p e =
    let f = find_any (is_of own peer) pairs p e in
    let both = and_parts (same_octets p.own own) (is_with peer p) f.1 in
    let of_own : own ≡ p.own = sym (same_octets_is p.own own both.0) in
    let of_peer : peer ≡ p.peer = sym (same_octets_is p.peer peer both.1) in
    (f.0, inr (names, λ i. of_peer i ∷ of_own i ∷ names))

-- ---- what is noted

not_noted : (a : Accepted) (noted : List Noted) → is_noted noted (note_of a) ≡ false → AllByRecursion (λ n. ¬ IsNoteOf a n) noted
not_noted a [] e = tt
not_noted a (n ∷ ns) e = go (is_same (note_of a) n) refl (not_noted a ns) e
  where
    go : (b : Bool) → is_same (note_of a) n ≡ b → (is_noted ns (note_of a) ≡ false → AllByRecursion (λ n. ¬ IsNoteOf a n) ns) → (b || is_noted ns (note_of a)) ≡ false
        → AllByRecursion (λ n. ¬ IsNoteOf a n) (n ∷ ns)
    go true is rest e = absurd cc
    go false is rest e = (
      (λ of. false≢true (sym is ∙ and_from _ _ (and_from _ _ (same_octets_true a.pair.peer n.peer (sym of.0)) (eq-eqb a.csb n.csb (sym of.1))) (same_octets_true a.stamp n.stamp (sym of.2)))),
      rest e,
    )

-- ---- one message

-- the octets that are read, and the message of this kind in them
pub message_read : (medium kind : ℕ) (value : Option (List ℕ)) (r : List ℕ × Message) → message_in medium kind value ≡ Ok r → (mikey_octets value ≡ Some r.0) × (messages.message_of r.0 ≡ Ok r.1) × (r.1.kind ≡ kind)
unfolding message_in
message_read medium kind value r e =
    let a = after_ok_is (or_refusal (KeyMgmt medium) (mikey_octets value)) _ r e in
    let b = after_ok_is (of_message medium (messages.message_of a.0)) _ r a.2 in
    let c = stop_if_is (not (eqb b.0.kind kind)) (Mikey medium 1 DataType) (Ok (a.0, b.0)) r b.2 in
    subst (λ (r : List ℕ × Message). (mikey_octets value ≡ Some r.0) × (messages.message_of r.0 ≡ Ok r.1) × (r.1.kind ≡ kind)) (ok_is (a.0, b.0) r c.1)
    (or_refusal_is (KeyMgmt medium) (mikey_octets value) a.0 a.1, message_is medium (messages.message_of a.0) b.0 b.1, eqb-true b.0.kind kind (not-false _ c.0))

-- the pair and the keys of what is accepted
pub initial_parts : (octets : List ℕ) (m : Message) (pairs : List Pair) (noted : List Noted) (now : ℕ) (a : Accepted) → initial_of octets m pairs noted now ≡ Ok a
    → (pair : Pair) × (pair_named pairs (names_in m.payloads) ≡ Some pair) × (fault_of octets m pair noted now ≡ None) × (ts : List Tgk) × (keys_in m pair ≡ Some ts) × (accepted_with m pair ts ≡ a)
unfolding initial_of initial_under with_keys
initial_parts octets m pairs noted now a e = go (pair_named pairs (names_in m.payloads)) refl e
  where
    keys : (pair : Pair) (o : Option (List Tgk)) → with_keys m pair (length noted) o ≡ Ok a → (ts : List Tgk) × (o ≡ Some ts) × (accepted_with m pair ts ≡ a)
    keys pair None e = absurd cc
    keys pair (Some ts) e = let p = stop_if_is (ltb 1020 (length noted)) CacheFull (Ok (accepted_with m pair ts)) a e in (ts, refl, ok_is (accepted_with m pair ts) a p.1)

    go : (o : Option Pair) → pair_named pairs (names_in m.payloads) ≡ o → initial_under octets m noted now o ≡ Ok a
        → (pair : Pair) × (o ≡ Some pair) × (fault_of octets m pair noted now ≡ None) × (ts : List Tgk) × (keys_in m pair ≡ Some ts) × (accepted_with m pair ts ≡ a)
    go None is e = absurd cc
    go (Some pair) is e =
        let u = unless_is (fault_of octets m pair noted now) (with_keys m pair (length noted) (keys_in m pair)) a e in
        let k = keys pair (keys_in m pair) u.1 in (pair, refl, u.0, k.0, k.1, k.2)

module _ (books : Books) (now : ℕ) where
  initial_is : (lines : List (List ℕ)) (octets : List ℕ) (m : Message) (a : Accepted) → mikey_octets (mikey_value lines) ≡ Some octets → messages.message_of octets ≡ Ok m → initial_of octets m books.pairs books.noted now ≡ Ok a → IsAuthentic books now lines a
  unfolding initial_of fault_of initial_fits mac_of
  initial_is lines octets m a carried read e =
      let i = initial_parts octets m books.pairs books.noted now a e in
      let served = none_unless (not (is_served (closing_in m.payloads))) Algorithm _ i.2 in
      let mac = none_unless (not (initial_fits octets m i.0)) BadMac _ served.1 in
      let skew = none_unless (is_skewed (stamp_in m.payloads) now) (Skew (moment_of (stamp_in m.payloads)) now) _ mac.1 in
      let repeated = none_unless (is_noted books.noted (note i.0.peer m.csb (stamp_in m.payloads))) Repeated None skew.1 in
      let p = pair_is books.pairs (names_in m.payloads) i.0 i.1 in
      subst (IsAuthentic books now lines) i.5 (record {
        octets = octets;
        carried = carried;
        message = m;
        read = read;
        csb = refl;
        stamp = refl;
        held = p.0;
        names = p.1;
        code = same_octets_is _ _ (not-false _ mac.0);
        timely = timely (stamp_in m.payloads) now skew.0;
        new = not_noted (accepted_with m i.0 i.3) books.noted repeated.0;
      })

  bundle_is : (c : Call) (noise : List ℕ) (medium count : ℕ) (lines : List (List ℕ)) (value : Option (List ℕ)) (b : Bundle) → mikey_value lines ≡ value
      → bundle_in (at_hand now books c noise) medium count value ≡ Ok b → IsAuthentic books now lines b.initial
  unfolding bundle_in
  bundle_is c noise medium count lines value b is e =
      let p = after_ok_is (message_in medium 0 value) _ b e in
      let q = after_ok_is (of_psk medium (initial_of p.0.0 p.0.1 books.pairs books.noted now)) _ b p.2 in
      let r = after_ok_is (of_cs medium (streams_of q.0.csb q.0.random q.0.map q.0.policies q.0.tgks count)) _ b q.2 in
      let m = message_read medium 0 value p.0 p.1 in
      subst (λ (b : Bundle). IsAuthentic books now lines b.initial) (ok_is _ b r.2)
      (initial_is lines p.0.0 p.0.1 q.0 (ap mikey_octets is ∙ m.0) m.1 (psk_is medium (initial_of p.0.0 p.0.1 books.pairs books.noted now) q.0 q.1))

  -- each message that an offer of this description is keyed by
  abbrev IsOfMedium : List descriptions.Medium → Bundle → Type 0
  IsOfMedium ms b = Any (λ m. IsAuthentic books now m.lines b.initial) ms

  abbrev AreAuthentic : Sdp → Keying → Type 0
  AreAuthentic s (PeerMessage b) = IsAuthentic books now s.session b.initial
  AreAuthentic s (PeerMessages bs) = AllByRecursion (Sometimes (IsOfMedium s.media)) bs
  AreAuthentic s other = Unit {0}

  abbrev of_medium : Call → List ℕ → ℕ → descriptions.Medium → Result Bundle Refusal
  of_medium c noise k m = bundle_in (at_hand now books c noise) k 1 (mikey_value m.lines)

  one_medium : (c : Call) (noise : List ℕ) (k : ℕ) (m : descriptions.Medium) (ms : List descriptions.Medium) (on : Bool) (b : Option Bundle) → if_active on (of_medium c noise k m) ≡ Ok b → Sometimes (IsOfMedium (m ∷ ms)) b
  one_medium c noise k m ms false b e = subst (Sometimes (IsOfMedium (m ∷ ms))) (ok_is None b e) tt
  one_medium c noise k m ms true b e =
      let a = after_ok_is (of_medium c noise k m) (λ x. Ok (Some x)) b e in
      subst (Sometimes (IsOfMedium (m ∷ ms))) (ok_is (Some a.0) b a.2)
      (any_here (λ m. IsAuthentic books now m.lines a.0.initial) m ms (bundle_is c noise k 1 m.lines (mikey_value m.lines) a.0 refl a.1))

  later_medium : (m : descriptions.Medium) (ms : List descriptions.Medium) (b : Option Bundle) → Sometimes (IsOfMedium ms) b → Sometimes (IsOfMedium (m ∷ ms)) b
  later_medium m ms None p = tt
  later_medium m ms (Some b) p = any_there (λ m. IsAuthentic books now m.lines b.initial) m ms p

  each_medium : (c : Call) (noise : List ℕ) (k : ℕ) (ms : List descriptions.Medium) (bs : List (Option Bundle)) → each_active Secure (of_medium c noise) k ms ≡ Ok bs
      → AllByRecursion (Sometimes (IsOfMedium ms)) bs
  each_medium c noise k [] bs e = subst (AllByRecursion (Sometimes (IsOfMedium []))) (ok_is [] bs e) tt
  each_medium c noise k (m ∷ ms) bs e =
      let a = after_ok_is (if_active (is_active Secure m) (of_medium c noise k m)) _ bs e in
      let b = after_ok_is (each_active Secure (of_medium c noise) (k + 1) ms) _ bs a.2 in
      subst (AllByRecursion (Sometimes (IsOfMedium (m ∷ ms)))) (ok_is (a.0 ∷ b.0) bs b.2)
      (one_medium c noise k m ms (is_active Secure m) a.0 a.1, each_weaker (Sometimes (IsOfMedium ms)) (Sometimes (IsOfMedium (m ∷ ms))) (later_medium m ms) b.0 (each_medium c noise (k + 1) ms b.0 b.1))

  by_messages : (c : Call) (noise : List ℕ) (s : Sdp) (value : Option (List ℕ)) (k : Keying) → mikey_value s.session ≡ value → keying_by_messages (at_hand now books c noise) s value ≡ Ok k → AreAuthentic s k
  by_messages c noise s (Some value) k is e =
      let a = after_ok_is (bundle_in (at_hand now books c noise) 255 (active_count Secure s.media) (Some value)) _ k e in
      subst (AreAuthentic s) (ok_is (PeerMessage a.0) k a.2) (bundle_is c noise 255 (active_count Secure s.media) s.session (Some value) a.0 is a.1)
  by_messages c noise s None k is e =
      let a = after_ok_is (each_active Secure (of_medium c noise) 0 s.media) _ k e in
      subst (AreAuthentic s) (ok_is (PeerMessages a.0) k a.2) (each_medium c noise 0 s.media a.0 a.1)

  keying_authentic : (c : Call) (noise : List ℕ) (s : Sdp) (way : Way) (k : Keying) → keying_of (at_hand now books c noise) s way ≡ Ok k → AreAuthentic s k
  keying_authentic c noise s FromSecure k e = go (has_message s) e
    where
      go : (b : Bool) → cond b (keying_by_messages (at_hand now books c noise) s (mikey_value s.session)) (after_ok (each_active Secure chosen_in 0 s.media) (λ ls. Ok (PeerLines ls))) ≡ Ok k → AreAuthentic s k
      go true e = by_messages c noise s (mikey_value s.session) k refl e
      go false e = let a = after_ok_is (each_active Secure chosen_in 0 s.media) _ k e in subst (AreAuthentic s) (ok_is (PeerLines a.0) k a.2) tt
  keying_authentic c noise s SdesFromPlain k e =
      let a = after_ok_is (each_active Plain (λ k m. Ok (offered_by (noise_of k noise))) 0 s.media) _ k e in
      subst (AreAuthentic s) (ok_is (OwnLines a.0) k a.2) tt
  keying_authentic c noise s (MikeyFromPlain peer) k e =
      let a = after_ok_is (of_psk 255 (sent_under now noise (ssrcs_of Plain s.media) (pair_with books.pairs peer))) _ k e in
      subst (AreAuthentic s) (ok_is (OwnMessage a.0) k a.2) tt

  pub offer_authentic : (c : Call) (way : Way) (noise text : List ℕ) (a : AgreedOffer) → agreed_offer (at_hand now books c noise) way text ≡ Ok a
      → AreAuthentic a.offer.description a.offer.keying × (a.noted ≡ notes_of a.offer.keying)
  unfolding agreed_offer
  offer_authentic c way noise text a e =
      let p = after_ok_is (described (side_of way) (media_of c) text) _ a e in
      let q = after_ok_is (keying_of (at_hand now books c noise) p.0 way) _ a p.2 in
      subst (λ (a : AgreedOffer). AreAuthentic a.offer.description a.offer.keying × (a.noted ≡ notes_of a.offer.keying)) (ok_is _ a q.2) (keying_authentic c noise p.0 way q.0 q.1, refl)

-- ---- the book

abbrev IsNote : Noted → Noted → Type 0
IsNote n x = (x.peer ≡ n.peer) × (x.csb ≡ n.csb) × (x.stamp ≡ n.stamp)

noted_is : (noted : List Noted) (n : Noted) → is_noted noted n ≡ true → Any (IsNote n) noted
noted_is [] n e = absurd cc
noted_is (x ∷ xs) n e = go (is_same n x) refl (noted_is xs n) e
  where
    go : (b : Bool) → is_same n x ≡ b → (is_noted xs n ≡ true → Any (IsNote n) xs) → (b || is_noted xs n) ≡ true → Any (IsNote n) (x ∷ xs)
    go true is rest e =
        let p = and_parts (same_octets n.peer x.peer && eqb n.csb x.csb) (same_octets n.stamp x.stamp) is in
        let q = and_parts (same_octets n.peer x.peer) (eqb n.csb x.csb) p.0 in
        any_here (IsNote n) x xs (sym (same_octets_is n.peer x.peer q.0), sym (eqb-true n.csb x.csb q.1), sym (same_octets_is n.stamp x.stamp p.1))
    go false is rest e = any_there (IsNote n) x xs (rest e)

-- what is noted stays, and what comes is noted
with_note_is : (noted : List Noted) (n : Noted) → ((new : List Noted) × (with_note noted n ≡ noted ++ new)) × Any (IsNote n) (with_note noted n)
with_note_is noted n = go (is_noted noted n) refl
  where
    go : (b : Bool) → is_noted noted n ≡ b → ((new : List Noted) × (cond b noted (noted ++ n ∷ []) ≡ noted ++ new)) × Any (IsNote n) (cond b noted (noted ++ n ∷ []))
    go true is = (([], sym (append-nil noted)), noted_is noted n is)
    go false is = ((n ∷ [], refl), any_last (IsNote n) noted n (refl, refl, refl))

pub notes_stay : (noted ns : List Noted) → (new : List Noted) × (with_notes noted ns ≡ noted ++ new)
notes_stay noted [] = ([], sym (append-nil noted))
notes_stay noted (n ∷ ns) =
    let one = (with_note_is noted n).0 in
    let rest = notes_stay (with_note noted n) ns in
    (one.0 ++ rest.0, rest.1 ∙ ap (λ (l : List Noted). l ++ rest.0) one.1 ∙ append_assoc noted one.0 rest.0)

all_noted : (noted ns : List Noted) → AllByRecursion (λ n. Any (IsNote n) (with_notes noted ns)) ns
all_noted noted [] = tt
all_noted noted (n ∷ ns) =
    let rest = notes_stay (with_note noted n) ns in
    (subst (Any (IsNote n)) (sym rest.1) (any_first (IsNote n) (with_note noted n) rest.0 (with_note_is noted n).1), all_noted (with_note noted n) ns)

module _ (books : Books) (now : ℕ) where
  bundles_once : (after : List Noted) (ms : List descriptions.Medium) (bs : List (Option Bundle)) → AllByRecursion (Sometimes (IsOfMedium books now ms)) bs
      → AllByRecursion (λ n. Any (IsNote n) after) (filter_map note_in bs) → AllByRecursion (IsBundleAcceptedOnce books now after ms) bs
  bundles_once after ms [] p q = tt
  bundles_once after ms (None ∷ bs) p q = (tt, bundles_once after ms bs p.1 q)
  bundles_once after ms (Some b ∷ bs) p q = ((p.0, q.0), bundles_once after ms bs p.1 q.1)

  pub accepted_once : (after : List Noted) (s : Sdp) (k : Keying) → AreAuthentic books now s k → AllByRecursion (λ n. Any (IsNote n) after) (notes_of k) → AreAcceptedOnce books now after s k
  accepted_once after s (PeerMessage b) p q = (p, q.0)
  accepted_once after s (PeerMessages bs) p q = bundles_once after s.media bs p q
  accepted_once after s other p q = tt

  -- what an offer that is agreed brings is accepted once
  agreed_once : (c : Call) (way : Way) (noise text : List ℕ) (a : AgreedOffer) → agreed_offer (at_hand now books c noise) way text ≡ Ok a
      → AreAcceptedOnce books now (with_notes books.noted a.noted) a.offer.description a.offer.keying
  agreed_once c way noise text a e =
      let is = offer_authentic books now c way noise text a e in
      accepted_once (with_notes books.noted a.noted) a.offer.description a.offer.keying is.0
      (subst (λ (ns : List Noted). AllByRecursion (λ n. Any (IsNote n) (with_notes books.noted a.noted)) ns) is.1 (all_noted books.noted a.noted))

-- ---- an event

module _ (w : World) (id : CallId) (way : Way) (noise text : List ℕ) where
  abbrev IsTaken : Answer → Type 0
  IsTaken a = ¬ Any IsRefusal a.outcomes
      → (c : Call) × (o : Offer) × (call_of a.world id ≡ Some c) × (c.offer ≡ Some o) × AreAcceptedOnce w.books w.moment a.world.books.noted o.description o.keying
      × ((o.side ≡ side_of way) × (description_of text ≡ Ok o.description))

  pub offer_once : IsTaken (answer_to w (Offered id way noise text))
  offer_once = each_offer w id way noise text IsTaken (λ cause free. absurd (free (any_here IsRefusal _ [] tt)))
      (λ none room a agreed free. (
        (settled_offer w.moment w.books (new_call w id) a).call,
        a.offer,
        found_new (λ c. same_id c.id id) (settled_offer w.moment w.books (new_call w id) a).call w.calls (same_id_itself id) none,
        refl,
        agreed_once w.books w.moment (new_call w id) way noise text a agreed,
        offer_is (at_hand w.moment w.books (new_call w id) noise) way text a agreed,
      ))
      (λ c at a agreed free. (
        (settled_offer w.moment w.books c a).call,
        a.offer,
        found_with id c (settled_offer w.moment w.books c a).call w.calls refl (id_found id c w.calls at) at,
        refl,
        agreed_once w.books w.moment c way noise text a agreed,
        offer_is (at_hand w.moment w.books c noise) way text a agreed,
      ))
