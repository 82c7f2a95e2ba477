-- What refuses an offer shows in its text, in its messages or in the pre-shared keys.
use Rattle.std.proofs.Common.{◌≡◌, ◌⊎◌, inl, inr, ℕ, ◌+◌, ◌*◌, ◌≤◌, Bool, true, false, cond, not, ◌&&◌, eqb, eq-eqb, eqb-true, ltb, ltb-true, List, [], ◌∷◌, ◌++◌, length, codes, Option, Some, None, Result, Ok, Err, refl, sym, ap, ◌∙◌, subst, arith}
use Rattle.std.proofs.lemmas.Bool.{and_from, and_parts, cond-false, eqb-false, false≢true, ltb-false, ne_eqb, not-false, not-true, or_parts}
use Rattle.std.proofs.lemmas.List.Folds.{Any-from_list_any, list_any-from_Any}
use Rattle.std.specs.Prelude.{◌||◌}
use Rattle.std.specs.List.{AllByRecursion, Any, cons_option, filter_map, find, list_any}
use Rattle.std.specs.Option.{is_none, is_some, option_map}
use Rattle.sg_agreement.proofs.MessagesSound.{psk_is}
use Rattle.sg_agreement.proofs.TextLines.{any_behind, first_is, mikey_is}
use Rattle.sg_agreement.specs.Attributes.{behind, crypto_values, first_of, has_message, mikey_octets, mikey_rest, mikey_value, ssrcs_of}
use Rattle.sg_agreement.specs.Described.{described, is_other_count}
use Rattle.sg_agreement.specs.Keying.{PeerLines}
use Rattle.sg_agreement.specs.Messages.{AtHand, Bundle, bundle_in, message_in}
use Rattle.sg_agreement.specs.Offers.{agreed_offer, chosen_in, keying_by_messages, keying_of, noise_of}
use Rattle.sg_agreement.specs.TextLines.{HasLine, HasNoMessage, IsMessageLine}
use Rattle.sg_base.specs.Fields.{◌>>=◌}
use Rattle.sg_base.specs.declared.faults.CsFault.{CsFault}
use Rattle.sg_base.specs.declared.faults.CsFault.TheVariants.{CsCount, PolicyMissing, PolicyValue}
use Rattle.sg_base.specs.declared.faults.MikeyFault.TheVariants.{DataType}
use Rattle.sg_base.specs.declared.faults.PskFault.{PskFault}
use Rattle.sg_base.specs.declared.faults.PskFault.TheVariants as faults
use Rattle.sg_base.specs.declared.faults.Refusal.TheVariants as causes
use Rattle.sg_base.specs.declared.faults.SdesFault.{SdesFault}
use Rattle.sg_base.specs.declared.faults.SdesFault.TheVariants.{NoLine}
use Rattle.sg_csmap.specs.CryptoSessions.{lacks_policy, or_fault, pair_in, pairs_from, policy_at, stream_in, streams_of}
use Rattle.sg_mikey.specs.Reading.{message_of}
use Rattle.sg_mikey.specs.declared.policy.Policy.{Policy}
use Rattle.sg_psk.specs.Accepting.{Accepted, accepted_with, fault_of, initial_fits, initial_of, initial_under, is_served, keys_in, unless, with_keys}
use Rattle.sg_psk.specs.Envelope.{mac_of}
use Rattle.sg_psk.specs.Pairs.{is_noted, is_of, is_same, is_with, note, pair_named}
use Rattle.sg_psk.specs.Parts.{closing_in, names_in, policies_in, stamp_in}
use Rattle.sg_psk.specs.Sending.{Sent, sent_under}
use Rattle.sg_psk.specs.Stamps.{is_skewed, moment_of}
use Rattle.sg_psk.specs.declared.replays.Noted.{Noted}
use Rattle.sg_sdes.specs.Answers.{chosen_of, offered_by, or_next}
use Rattle.sg_sdes.specs.CryptoOf.{crypto_of}
use Rattle.sg_sdp.specs.declared.medium.Medium as descriptions
use Rattle.sg_sdp.specs.declared.sdp.Sdp.{Sdp}
use Rattle.sg_session.proofs.Inversions.{ok_is, stop_if_is}
use Rattle.sg_gateway.proofs.Authentic.{find_any, initial_parts, message_read, none_unless, not_timely, timely, unless_is}
use Rattle.sg_gateway.proofs.Common.{Books, Call, CallId, CryptoLine, CsEntry, FromSecure, Message, MikeyFromPlain, Pair, Plain, Refusal, SdesFromPlain, Secure, Side, StreamKeys, Tgk, Way, World}
use Rattle.sg_gateway.proofs.Common.{active_count, after_ok, after_ok_is, any_cases, any_here, any_none, any_there, any_weaker, at_hand, each_active, each_of, each_weaker}
use Rattle.sg_gateway.proofs.Common.{if_active, is_active, none_some, of_cs, of_message, of_psk, or_refusal, pair_with, same_octets, same_octets_is, same_octets_true, side_of, some_is}
use Rattle.sg_gateway.proofs.PeersMessages.{octets_carried}
use Rattle.sg_gateway.specs.Authentic.{AreNamesOf}
use Rattle.sg_gateway.specs.CallSignals.{media_of}
use Rattle.sg_gateway.specs.CryptoSessions.{Carries}
use Rattle.sg_conduct.proofs.Acceptable.{octets_are, policy_means, stream_given}
use Rattle.sg_conduct.proofs.Causes.{after_ok_err, err_is, message_err, message_ok, octets_err, octets_ok, ok_err, psk_err, sdes_err, stop_if_err, text_counts, text_describes, text_refused}
use Rattle.sg_conduct.proofs.Forth.{find_first, first_line}
use Rattle.sg_conduct.proofs.Offers.{active_takes}
use Rattle.sg_conduct.proofs.Present.{takes_active}
use Rattle.sg_conduct.proofs.Served.{sessions_serve}
use Rattle.sg_conduct.specs.Offers.{Describes, HasPolicy, IsAcceptable, IsFirstNamed}
use Rattle.sg_conduct.specs.Present.{TakesPart}
use Rattle.sg_conduct.specs.Refusals.{FitsCall, HasCode, IsAccepted, IsFirstAfter, IsGenuine, IsNotAccepted, IsNotedIn, IsOfAlgorithms, IsPart, IsThere, IsToCarry, OfferSpeaks, PskSpeaks, SessionsSpeak}

find_none : {X : Type 0} (test : X → Bool) (xs : List X) → find test xs ≡ None → AllByRecursion (λ x. test x ≡ false) xs
find_none test [] e = tt
find_none test (x ∷ xs) e = go (find_none test xs) (test x) refl e
  where
    go : (find test xs ≡ None → AllByRecursion (λ x. test x ≡ false) xs) → (b : Bool) → test x ≡ b → cond b (Some x) (find test xs) ≡ None → (test x ≡ false) × AllByRecursion (λ x. test x ≡ false) xs
    go rest true is e = absurd cc
    go rest false is e = (is, rest e)

none_any : {X : Type 0} (P : X → Type 0) (xs : List X) → ¬ Any P xs → AllByRecursion (λ x. ¬ P x) xs
none_any P [] none = tt
none_any P (x ∷ xs) none = ((λ p. none (any_here P x xs p)), none_any P xs (λ any. none (any_there P x xs any)))

-- ---- the first medium that refuses

module _ {X : Type 0} (value : ℕ → descriptions.Medium → Result X Refusal) (P : descriptions.Medium → Type 0) (holds : (k : ℕ) (m : descriptions.Medium) (x : X) → value k m ≡ Ok x → P m) (cause : Refusal) where
  record Stops (k : ℕ) (ms : List descriptions.Medium) : Type 0 where
    m : descriptions.Medium
    before : List descriptions.Medium
    behind : List descriptions.Medium
    parts : ms ≡ before ++ m ∷ behind
    number : ℕ
    place : number ≡ k + length before
    takes : TakesPart Secure m
    gives : value number m ≡ Err cause
    each : AllByRecursion (λ n. TakesPart Secure n → P n) before

  medium_stops : (k : ℕ) (m : descriptions.Medium) (ms : List descriptions.Medium) (b : Bool) → is_active Secure m ≡ b → if_active b (value k m) ≡ Err cause → Stops k (m ∷ ms)
  medium_stops k m ms false is e = absurd (ok_err _ cause e)
  medium_stops k m ms true is e = elim (after_ok_err (value k m) _ cause e) [
    | inl fails ↦ record { m = m; before = []; behind = ms; parts = refl; number = k; place = omega arith; takes = active_takes Secure m is; gives = fails; each = tt }
    | inr x ↦ absurd (ok_err _ cause x.2)
  ]

  goes_on : (k : ℕ) (m : descriptions.Medium) (b : Bool) → is_active Secure m ≡ b → (o : Option X) → if_active b (value k m) ≡ Ok o → TakesPart Secure m → P m
  goes_on k m false is o e takes = absurd (false≢true (sym is ∙ takes_active Secure m takes))
  goes_on k m true is o e takes = let x = after_ok_is (value k m) _ o e in holds k m x.0 x.1

  media_stop : (k : ℕ) (ms : List descriptions.Medium) → each_active Secure value k ms ≡ Err cause → Stops k ms
  media_stop k [] e = absurd (ok_err _ cause e)
  media_stop k (m ∷ ms) e = elim (after_ok_err (if_active (is_active Secure m) (value k m)) _ cause e) [
    | inl fails ↦ medium_stops k m ms (is_active Secure m) refl fails
    | inr x ↦ elim (after_ok_err (each_active Secure value (k + 1) ms) _ cause x.2) [
      | inl later ↦
          let s = media_stop (k + 1) ms later in
          record {
            m = s.m;
            before = m ∷ s.before;
            behind = s.behind;
            parts = ap (λ (l : List descriptions.Medium). m ∷ l) s.parts;
            number = s.number;
            place = (let e = s.place in omega (arith, e));
            takes = s.takes;
            gives = s.gives;
            each = (goes_on k m (is_active Secure m) refl x.0 x.1, s.each);
          }
      | inr y ↦ absurd (ok_err _ cause y.2)
    ]
  ]

  first_after : (ms : List descriptions.Medium) (s : Stops 0 ms) → IsFirstAfter P ms s.number s.m
  first_after ms s = record { before = s.before; behind = s.behind; parts = s.parts; place = (let e = s.place in omega (arith, e)); takes = s.takes; each = s.each }

never : {X : Type 0} (side : Side) (value : ℕ → descriptions.Medium → X) (cause : Refusal) (k : ℕ) (ms : List descriptions.Medium) → each_active side (λ k m. Ok (value k m)) k ms ≡ Err cause → ⊥
never side value cause k [] e = ok_err _ cause e
never side value cause k (m ∷ ms) e = elim (after_ok_err (if_active (is_active side m) (Ok (value k m))) _ cause e) [
  | inl fails ↦ go (is_active side m) fails
  | inr x ↦ elim (after_ok_err (each_active side (λ k m. Ok (value k m)) (k + 1) ms) _ cause x.2) [
    | inl later ↦ never side value cause (k + 1) ms later
    | inr y ↦ ok_err _ cause y.2
  ]
]
  where
    go : (b : Bool) → if_active b (Ok (value k m)) ≡ Err cause → ⊥
    go true e = ok_err _ cause e
    go false e = ok_err _ cause e

-- ---- crypto lines

abbrev IsSaid : CryptoLine → List ℕ → Type 0
IsSaid l line = (value : List ℕ) × (line ≡ codes "a=crypto:" ++ value) × (crypto_of value ≡ Ok l)

none_chosen : (ls : List (List ℕ)) (fault : SdesFault) → chosen_of (filter_map (behind (codes "a=crypto:")) ls) ≡ Err fault → (fault ≡ NoLine) × ((l : CryptoLine) → ¬ Any (IsSaid l) ls)
unfolding chosen_of
none_chosen [] fault e = (sym (err_is {X = CryptoLine} NoLine fault e), (λ l any. any_none (IsSaid l) any))
none_chosen (line ∷ ls) fault e = go (none_chosen ls fault) (behind (codes "a=crypto:") line) refl e
  where
    Unread : List (List ℕ) → Type 0
    Unread ls = (fault ≡ NoLine) × ((l : CryptoLine) → ¬ Any (IsSaid l) ls)

    behind_it : (value : List ℕ) → line ≡ codes "a=crypto:" ++ value → behind (codes "a=crypto:") line ≡ Some value
    behind_it value is = ap (behind (codes "a=crypto:")) is

    with_line : ((l : CryptoLine) → ¬ IsSaid l line) → Unread ls → Unread (line ∷ ls)
    with_line none rest = (rest.0, (λ l any. elim (any_cases (IsSaid l) line ls any) [ inl here ↦ none l here | inr later ↦ rest.1 l later ]))

    read : (value : List ℕ) → behind (codes "a=crypto:") line ≡ Some value → (r : Result CryptoLine SdesFault) → crypto_of value ≡ r
        → or_next r (chosen_of (filter_map (behind (codes "a=crypto:")) ls)) ≡ Err fault → (chosen_of (filter_map (behind (codes "a=crypto:")) ls) ≡ Err fault → Unread ls) → Unread (line ∷ ls)
    read value at (Ok l) is e rest = absurd (ok_err l fault e)
    read value at (Err other) is e rest =
        with_line (λ l said. ok_err l other (sym said.2 ∙ ap crypto_of (some_is said.0 value (sym (behind_it said.0 said.1) ∙ at)) ∙ is)) (rest e)

    go : (chosen_of (filter_map (behind (codes "a=crypto:")) ls) ≡ Err fault → Unread ls) → (o : Option (List ℕ)) → behind (codes "a=crypto:") line ≡ o
        → chosen_of (cons_option o (filter_map (behind (codes "a=crypto:")) ls)) ≡ Err fault → Unread (line ∷ ls)
    go rest None is e = with_line (λ l said. none_some said.0 (sym is ∙ behind_it said.0 said.1)) (rest e)
    go rest (Some value) is e = read value is (crypto_of value) refl e rest

has_line : (k : ℕ) (m : descriptions.Medium) (l : CryptoLine) → chosen_in k m ≡ Ok l → (l : CryptoLine) × HasLine m l
has_line k m l e =
    let f = first_line k m l e in
    (l, subst (Any (IsSaid l)) (sym f.parts) (any_behind (IsSaid l) f.before ((codes "a=crypto:" ++ f.value) ∷ f.behind) (any_here (IsSaid l) (codes "a=crypto:" ++ f.value) f.behind (f.value, refl, f.read))))

-- ---- lines that carry a message

line_kept : (line : List ℕ) → IsMessageLine line → (value : List ℕ) × (mikey_rest line ≡ Some value)
line_kept line (rest, inl is) = ([], ap mikey_rest is)
line_kept line (rest, inr is) = (32 ∷ rest, ap mikey_rest is)

no_lines : (ls : List (List ℕ)) → is_some (first_of (filter_map mikey_rest ls)) ≡ false → AllByRecursion (λ line. ¬ IsMessageLine line) ls
no_lines [] e = tt
no_lines (l ∷ ls) e = go (no_lines ls) (mikey_rest l) refl e
  where
    go : (is_some (first_of (filter_map mikey_rest ls)) ≡ false → AllByRecursion (λ line. ¬ IsMessageLine line) ls) → (o : Option (List ℕ)) → mikey_rest l ≡ o
        → is_some (first_of (cons_option o (filter_map mikey_rest ls))) ≡ false → AllByRecursion (λ line. ¬ IsMessageLine line) (l ∷ ls)
    go rest None is e = ((λ kept. let x = line_kept l kept in none_some x.0 (sym is ∙ x.1)), rest e)
    go rest (Some value) is e = absurd (false≢true (sym e))

no_value : (ls : List (List ℕ)) → is_some (mikey_value ls) ≡ false → AllByRecursion (λ line. ¬ IsMessageLine line) ls
unfolding mikey_value
no_value ls e = no_lines ls e

some_line : (ls : List (List ℕ)) → is_some (mikey_value ls) ≡ true → Any IsMessageLine ls
unfolding mikey_value
some_line ls e = go (first_of (filter_map mikey_rest ls)) refl e
  where
    go : (o : Option (List ℕ)) → first_of (filter_map mikey_rest ls) ≡ o → is_some o ≡ true → Any IsMessageLine ls
    go None is e = absurd (false≢true e)
    go (Some value) is e = any_weaker (λ line. mikey_rest line ≡ Some value) IsMessageLine (λ line kept. mikey_is line value kept) ls (first_is mikey_rest ls value is)

no_media : (ms : List descriptions.Medium) → list_any (λ (m : descriptions.Medium). is_some (mikey_value m.lines)) ms ≡ false → AllByRecursion (λ (m : descriptions.Medium). AllByRecursion (λ line. ¬ IsMessageLine line) m.lines) ms
no_media [] e = tt
no_media (m ∷ ms) e = let p = or_parts (is_some (mikey_value m.lines)) _ e in (no_value m.lines p.0, no_media ms p.1)

has_no : (s : Sdp) → has_message s ≡ false → HasNoMessage s
has_no s e = let p = or_parts (is_some (mikey_value s.session)) _ e in record { session = no_value s.session p.0; media = no_media s.media p.1 }

some_medium : (s : Sdp) → has_message s ≡ true → mikey_value s.session ≡ None → Any (λ m. Any IsMessageLine m.lines) s.media
some_medium s e none = any_weaker (λ m. is_some (mikey_value m.lines) ≡ true) (λ m. Any IsMessageLine m.lines) (λ m is. some_line m.lines is) s.media
    (Any-from_list_any (λ m. is_some (mikey_value m.lines)) s.media (ap (λ o. is_some o || list_any (λ (m : descriptions.Medium). is_some (mikey_value m.lines)) s.media) (sym none) ∙ e))

-- ---- the pre-shared key of a message

not_with : (peer : List ℕ) (p : Pair) → is_with peer p ≡ false → AreNamesOf p (peer ∷ []) → ⊥
not_with peer p off (inl e) = let same : peer ≡ p.peer = cc in false≢true (sym off ∙ same_octets_true p.peer peer (sym same))
not_with peer p off (inr (more, e)) = absurd cc

not_of : (own peer : List ℕ) (names : List (List ℕ)) (p : Pair) → is_of own peer p ≡ false → AreNamesOf p (peer ∷ own ∷ names) → ⊥
not_of own peer names p off (inl e) = absurd cc
not_of own peer names p off (inr (more, e)) =
    let of_peer : peer ≡ p.peer = cc in
    let of_own : own ≡ p.own = cc in
    false≢true (sym off ∙ and_from (same_octets p.own own) (is_with peer p) (same_octets_true p.own own (sym of_own)) (same_octets_true p.peer peer (sym of_peer)))

no_names : (p : Pair) → AreNamesOf p [] → ⊥
no_names p (inl e) = absurd cc
no_names p (inr (more, e)) = absurd cc

none_named : (pairs : List Pair) (names : List (List ℕ)) → pair_named pairs names ≡ None → AllByRecursion (λ p. ¬ AreNamesOf p names) pairs
none_named pairs [] e = each_of _ no_names pairs
none_named pairs (peer ∷ []) e = each_weaker _ _ (not_with peer) pairs (find_none (is_with peer) pairs e)
none_named pairs (peer ∷ own ∷ names) e = each_weaker _ _ (not_of own peer names) pairs (find_none (is_of own peer) pairs e)

first_named : (pairs : List Pair) (names : List (List ℕ)) (pair : Pair) → pair_named pairs names ≡ Some pair → IsFirstNamed pairs names pair
first_named pairs [] pair e = absurd (none_some pair e)
first_named pairs (peer ∷ []) pair e =
    let f = find_first (is_with peer) pairs pair e in
    record { before = f.0; behind = f.1; parts = f.2; named = inl (ap (λ n. n ∷ []) (sym (same_octets_is pair.peer peer (find_any (is_with peer) pairs pair e).1))); none = each_weaker _ _ (not_with peer) f.0 f.3 }
first_named pairs (peer ∷ own ∷ names) pair e =
    let f = find_first (is_of own peer) pairs pair e in
    let is = and_parts (same_octets pair.own own) (is_with peer pair) (find_any (is_of own peer) pairs pair e).1 in
    let of_peer = sym (same_octets_is pair.peer peer is.1) in
    let of_own = sym (same_octets_is pair.own own is.0) in
    record { before = f.0; behind = f.1; parts = f.2; named = inr (names, (λ i. of_peer i ∷ of_own i ∷ names)); none = each_weaker _ _ (not_of own peer names) f.0 f.3 }

-- ---- why it isn't accepted

module _ (books : Books) (now : ℕ) (octets : List ℕ) (m : Message) where
  module _ (pair : Pair) where
    abbrev Not : PskFault → Type 0
    Not fault = IsNotAccepted books now octets m pair fault

    abbrev as_noted : Noted
    as_noted = note pair.peer m.csb (stamp_in m.payloads)

    algorithms_are : is_served (closing_in m.payloads) ≡ true → IsOfAlgorithms m
    algorithms_are e = let p = and_parts (eqb (closing_in m.payloads).cipher 1) (eqb (closing_in m.payloads).mac 1) e in (eqb-true _ 1 p.0, eqb-true _ 1 p.1)

    has_code : initial_fits octets m pair ≡ true → HasCode octets m pair
    unfolding initial_fits mac_of
    has_code e = same_octets_is _ _ e

    is_there : is_noted books.noted as_noted ≡ true → IsNotedIn books.noted m pair
    is_there e = any_weaker _ _ (λ (n : Noted) same.
        let p = and_parts (same_octets pair.peer n.peer && eqb m.csb n.csb) (same_octets (stamp_in m.payloads) n.stamp) same in
        let q = and_parts (same_octets pair.peer n.peer) (eqb m.csb n.csb) p.0 in
        (sym (same_octets_is pair.peer n.peer q.0), sym (eqb-true m.csb n.csb q.1), sym (same_octets_is (stamp_in m.payloads) n.stamp p.1))) books.noted
        (Any-from_list_any (is_same as_noted) books.noted e)

    is_new : is_noted books.noted as_noted ≡ false → ¬ IsNotedIn books.noted m pair
    is_new e there = false≢true (sym e ∙ list_any-from_Any (is_same as_noted) books.noted (any_weaker _ _ (λ (n : Noted) same.
        and_from (same_octets pair.peer n.peer && eqb m.csb n.csb) (same_octets (stamp_in m.payloads) n.stamp)
        (and_from (same_octets pair.peer n.peer) (eqb m.csb n.csb) (same_octets_true _ _ (sym same.0)) (eq-eqb m.csb n.csb (sym same.1))) (same_octets_true _ _ (sym same.2))) books.noted there))

    genuine : fault_of octets m pair books.noted now ≡ None → IsGenuine books now octets m pair
    unfolding fault_of
    genuine e =
        let a = none_unless (not (is_served (closing_in m.payloads))) faults.Algorithm _ e in
        let b = none_unless (not (initial_fits octets m pair)) faults.BadMac _ a.1 in
        let c = none_unless (is_skewed (stamp_in m.payloads) now) (faults.Skew (moment_of (stamp_in m.payloads)) now) _ b.1 in
        let d = none_unless (is_noted books.noted as_noted) faults.Repeated None c.1 in
        record { algorithms = algorithms_are (not-false _ a.0); code = has_code (not-false _ b.0); timely = timely (stamp_in m.payloads) now c.0; new = is_new d.0 }

    keys_not : IsGenuine books now octets m pair → (o : Option (List Tgk)) → keys_in m pair ≡ o → (fault : PskFault) → with_keys m pair (length books.noted) o ≡ Err fault → Not fault
    unfolding with_keys keys_in
    keys_not is None at fault e = subst Not (err_is {X = Accepted} faults.KeyType fault e) (is, at)
    keys_not is (Some tgks) at fault e = go (ltb 1020 (length books.noted)) refl e
      where
        go : (b : Bool) → ltb 1020 (length books.noted) ≡ b → cond b (Err faults.CacheFull) (Ok (accepted_with m pair tgks)) ≡ Err fault → Not fault
        go true over e = subst Not (err_is {X = Accepted} faults.CacheFull fault e) (is, (λ none. none_some tgks (sym none ∙ at)), ltb-true 1020 (length books.noted) over)
        go false room e = absurd (ok_err _ fault e)

    by_tests : (a b c d : Bool) → is_served (closing_in m.payloads) ≡ a → initial_fits octets m pair ≡ b → is_skewed (stamp_in m.payloads) now ≡ c → is_noted books.noted as_noted ≡ d
        → (fault : PskFault) → unless (cond (not a) (Some faults.Algorithm) (cond (not b) (Some faults.BadMac) (cond c (Some (faults.Skew (moment_of (stamp_in m.payloads)) now)) (cond d (Some faults.Repeated) None))))
        (with_keys m pair (length books.noted) (keys_in m pair)) ≡ Err fault → Not fault
    unfolding initial_fits mac_of moment_of
    by_tests false b c d served fits skewed noted fault e =
        subst Not (err_is {X = Accepted} faults.Algorithm fault e) (λ both. false≢true (sym served ∙ and_from _ _ (eq-eqb _ 1 both.0) (eq-eqb _ 1 both.1)))
    by_tests true false c d served fits skewed noted fault e =
        subst Not (err_is {X = Accepted} faults.BadMac fault e) (algorithms_are served, (λ same. false≢true (sym fits ∙ same_octets_true _ _ same)))
    by_tests true true true d served fits skewed noted fault e =
        subst Not (err_is {X = Accepted} (faults.Skew (moment_of (stamp_in m.payloads)) now) fault e) (algorithms_are served, has_code fits, not_timely (stamp_in m.payloads) now skewed, refl, refl)
    by_tests true true false true served fits skewed noted fault e =
        subst Not (err_is {X = Accepted} faults.Repeated fault e) (algorithms_are served, has_code fits, timely (stamp_in m.payloads) now skewed, is_there noted)
    by_tests true true false false served fits skewed noted fault e =
        keys_not (record { algorithms = algorithms_are served; code = has_code fits; timely = timely (stamp_in m.payloads) now skewed; new = is_new noted }) (keys_in m pair) refl fault e

    not_accepted : (fault : PskFault) → unless (fault_of octets m pair books.noted now) (with_keys m pair (length books.noted) (keys_in m pair)) ≡ Err fault → Not fault
    unfolding fault_of
    not_accepted fault e = by_tests _ _ _ _ refl refl refl refl fault e

  psk_speaks : (fault : PskFault) → initial_of octets m books.pairs books.noted now ≡ Err fault → PskSpeaks books now octets m fault
  unfolding initial_of initial_under
  psk_speaks fault e = go (pair_named books.pairs (names_in m.payloads)) refl e
    where
      go : (o : Option Pair) → pair_named books.pairs (names_in m.payloads) ≡ o → initial_under octets m books.noted now o ≡ Err fault → PskSpeaks books now octets m fault
      go None is e = inl (sym (err_is {X = Accepted} faults.IdUnknown fault e), none_named books.pairs (names_in m.payloads) is)
      go (Some pair) is e = inr (pair, first_named books.pairs (names_in m.payloads) pair is, not_accepted pair fault e)

-- ---- why it doesn't serve

cs_err : {X : Type 0} (k : ℕ) (r : Result X CsFault) (c : Refusal) → of_cs k r ≡ Err c → (fault : CsFault) × (r ≡ Err fault) × (causes.Cs k fault ≡ c)
cs_err k (Ok x) c e = absurd (ok_err x c e)
cs_err {X} k (Err fault) c e = (fault, refl, err_is {X = X} (causes.Cs k fault) c e)

cs_ok : {X : Type 0} (k : ℕ) (r : Result X CsFault) (x : X) → of_cs k r ≡ Ok x → r ≡ Ok x
cs_ok k (Ok y) x e = ap Ok (ok_is y x e)
cs_ok k (Err fault) x e = absurd cc

bind_none : {A B : Type 0} (o : Option A) (f : A → Option B) → (o >>= f) ≡ None → (o ≡ None) ⊎ ((x : A) × (o ≡ Some x) × (f x ≡ None))
bind_none None f e = inl refl
bind_none (Some x) f e = inr (x, refl, e)

map_none : {A B : Type 0} (f : A → B) (o : Option A) → option_map f o ≡ None → o ≡ None
map_none f None e = refl
map_none f (Some x) e = absurd cc

module _ (csb : ℕ) (random : List ℕ) (policies : List Policy) (tgks : List Tgk) where
  abbrev Lacks : CsEntry → Type 0
  Lacks entry = ¬ HasPolicy policies entry

  no_stream : (session : ℕ) (entry : CsEntry) → stream_in csb random policies tgks session entry ≡ None → Lacks entry
  no_stream session entry e has = let x = stream_given csb random policies tgks session entry (policy_means policies entry has) in none_some x.0 (sym e ∙ x.1)

  no_pair : (session : ℕ) (i r : CsEntry) → pair_in csb random policies tgks session i r ≡ None → Lacks i ⊎ Lacks r
  unfolding pair_in
  no_pair session i r e = elim (bind_none (stream_in csb random policies tgks session i) _ e) [
    | inl none ↦ inl (no_stream session i none)
    | inr x ↦ elim (bind_none (stream_in csb random policies tgks (session + 1) r) _ x.2) [
      | inl none ↦ inr (no_stream (session + 1) r none)
      | inr y ↦ absurd (none_some (x.0, y.0) (sym y.2))
    ]
  ]

  pairs_none : (session : ℕ) (map : List CsEntry) → pairs_from csb random policies tgks session map ≡ None → Any Lacks map
  unfolding pairs_from
  pairs_none session [] e = absurd cc
  pairs_none session (alone ∷ []) e = absurd cc
  pairs_none session (i ∷ r ∷ map) e = elim (bind_none (pair_in csb random policies tgks session i r) _ e) [
    | inl none ↦ elim (no_pair session i r none) [
      | inl first ↦ any_here Lacks i (r ∷ map) first
      | inr second ↦ any_there Lacks i (r ∷ map) (any_here Lacks r map second)
    ]
    | inr x ↦ any_there Lacks i (r ∷ map) (any_there Lacks r map (pairs_none (session + 2) map (map_none (λ pairs. x.0 ∷ pairs) (pairs_from csb random policies tgks (session + 2) map) x.2)))
  ]

has_policy : (policies : List Policy) (entry : CsEntry) → AllByRecursion (λ (p : Policy). ¬ p.number ≡ entry.policy) policies → lacks_policy policies entry ≡ true
has_policy [] entry none = refl
has_policy (p ∷ policies) entry none = ap is_none (cond-false (eqb p.number entry.policy) (Some p) (find (λ (p : Policy). eqb p.number entry.policy) policies) (ne_eqb p.number entry.policy none.0)) ∙ has_policy policies entry none.1

no_policy : (policies : List Policy) (entry : CsEntry) (o : Option Policy) → policy_at policies entry ≡ o → is_none o ≡ true → AllByRecursion (λ (p : Policy). ¬ p.number ≡ entry.policy) policies
no_policy policies entry None is none = each_weaker _ _ (λ p other. eqb-false p.number entry.policy other) policies (find_none (λ (p : Policy). eqb p.number entry.policy) policies is)
no_policy policies entry (Some p) is none = absurd (false≢true none)

module _ (m : Message) (count : ℕ) (tgks : List Tgk) (random : List ℕ) (fault : CsFault) where
  abbrev Serves : CsFault → Type 0
  Serves fault = SessionsSpeak m count fault

  by_counts : (a b : Bool) → eqb (length m.map) (2 * count) ≡ a → list_any (lacks_policy (policies_in m.payloads)) m.map ≡ b
      → cond (not a) (Err CsCount) (cond b (Err PolicyMissing) (or_fault PolicyValue (pairs_from m.csb random (policies_in m.payloads) tgks 1 m.map))) ≡ Err fault → Serves fault
  by_counts false b is lacks e = subst Serves (err_is {X = List (StreamKeys × StreamKeys)} CsCount fault e) (eqb-false (length m.map) (2 * count) is)
  by_counts true true is lacks e = subst Serves (err_is {X = List (StreamKeys × StreamKeys)} PolicyMissing fault e) (
    eqb-true (length m.map) (2 * count) is,
    any_weaker _ _ (λ entry none. no_policy (policies_in m.payloads) entry (policy_at (policies_in m.payloads) entry) refl none) m.map (Any-from_list_any (lacks_policy (policies_in m.payloads)) m.map lacks),
  )
  by_counts true false counted lacks e = go (pairs_from m.csb random (policies_in m.payloads) tgks 1 m.map) refl e
    where
      go : (o : Option (List (StreamKeys × StreamKeys))) → pairs_from m.csb random (policies_in m.payloads) tgks 1 m.map ≡ o → or_fault PolicyValue o ≡ Err fault → Serves fault
      go None is e = subst Serves (err_is {X = List (StreamKeys × StreamKeys)} PolicyValue fault e) (
        eqb-true (length m.map) (2 * count) counted,
        (λ any. false≢true (sym lacks ∙ list_any-from_Any (lacks_policy (policies_in m.payloads)) m.map (any_weaker _ _ (has_policy (policies_in m.payloads)) m.map any))),
        pairs_none m.csb random (policies_in m.payloads) tgks 1 m.map is,
      )
      go (Some ps) is e = absurd (ok_err ps fault e)

  sessions_speak : streams_of m.csb random m.map (policies_in m.payloads) tgks count ≡ Err fault → Serves fault
  unfolding streams_of
  sessions_speak e = by_counts _ _ refl refl e

-- ---- an offer

module _ (w : World) (id : CallId) (c : Call) (noise : List ℕ) (way : Way) (text : List ℕ) where
  abbrev hand : AtHand
  hand = at_hand w.moment w.books c noise

  abbrev Cause : Refusal → Type 0
  Cause cause = OfferSpeaks w id way text cause

  -- where it is accepted there is room: CacheFull is told before its crypto sessions are looked at
  has_room : (octets : List ℕ) (m : Message) (a : Accepted) → initial_of octets m w.books.pairs w.books.noted w.moment ≡ Ok a
      → length w.books.noted ≤ 1020
  unfolding initial_of initial_under with_keys
  has_room octets m a e =
      let i = initial_parts octets m w.books.pairs w.books.noted w.moment a e in
      let kept = length w.books.noted in
      let under = unless_is (fault_of octets m i.0 w.books.noted w.moment) (with_keys m i.0 kept (keys_in m i.0)) a
      (ap (initial_under octets m w.books.noted w.moment) (sym i.1) ∙ e) in
      let room = stop_if_is (ltb 1020 kept) faults.CacheFull (Ok (accepted_with m i.0 i.3)) a (ap (with_keys m i.0 kept) (sym i.4) ∙ under.1) in
      ltb-false 1020 kept room.0

  accepted : (octets : List ℕ) (m : Message) (a : Accepted) → initial_of octets m w.books.pairs w.books.noted w.moment ≡ Ok a → IsAccepted w octets m
  unfolding keys_in
  accepted octets m a e =
      let i = initial_parts octets m w.books.pairs w.books.noted w.moment a e in
      let held = first_named w.books.pairs (names_in m.payloads) i.0 i.1 in
      (i.0, held, genuine w.books w.moment octets m i.0 i.2, (λ none. none_some i.3 (sym none ∙ i.4)), has_room octets m a e)

  abbrev Acceptable : descriptions.Medium → Type 0
  Acceptable m = IsAcceptable w.books w.moment m.lines 1

  carries_acceptable : (k : ℕ) (m : descriptions.Medium) (b : Bundle) → bundle_in hand k 1 (mikey_value m.lines) ≡ Ok b → Acceptable m
  unfolding bundle_in keys_in
  carries_acceptable k m b e =
      let p = after_ok_is (message_in k 0 (mikey_value m.lines)) _ b e in
      let q = after_ok_is (of_psk k (initial_of p.0.0 p.0.1 w.books.pairs w.books.noted w.moment)) _ b p.2 in
      let r = after_ok_is (of_cs k (streams_of q.0.csb q.0.random q.0.map q.0.policies q.0.tgks 1)) _ b q.2 in
      let is = message_read k 0 (mikey_value m.lines) p.0 p.1 in
      let taken = psk_is k _ q.0 q.1 in
      let i = initial_parts p.0.0 p.0.1 w.books.pairs w.books.noted w.moment q.0 taken in
      let made : Accepted = accepted_with p.0.1 i.0 i.3 in
      let at : streams_of made.csb made.random made.map made.policies made.tgks 1 ≡ Ok r.0 =
      subst (λ (a : Accepted). streams_of a.csb a.random a.map a.policies a.tgks 1 ≡ Ok r.0) (sym i.5) (cs_ok k _ r.0 r.1) in
      let g = genuine w.books w.moment p.0.0 p.0.1 i.0 i.2 in
      let serves = sessions_serve made.csb made.random made.policies made.tgks made.map 1 r.0 at in
      record {
        octets = p.0.0;
        carried = octets_carried m.lines p.0.0 is.0;
        message = p.0.1;
        read = is.1;
        kind = is.2;
        pair = i.0;
        held = first_named w.books.pairs (names_in p.0.1.payloads) i.0 i.1;
        cipher = g.algorithms.0;
        mac = g.algorithms.1;
        code = g.code;
        timely = g.timely;
        new = none_any _ w.books.noted g.new;
        room = has_room p.0.0 p.0.1 q.0 taken;
        tgks = i.3;
        keys = i.4;
        sessions = serves.0;
        policies = serves.1;
      }

  module _ (medium : ℕ) (x : IsToCarry w id way text medium) (cause : Refusal) where
    none_in : message_in medium 0 (mikey_value x.lines) ≡ Err cause → Cause cause
    unfolding message_in
    none_in e = elim (after_ok_err (or_refusal (causes.KeyMgmt medium) (mikey_octets (mikey_value x.lines))) _ cause e) [
      | inl fails ↦
          let f = octets_err (causes.KeyMgmt medium) (mikey_octets (mikey_value x.lines)) cause fails in
          subst Cause f.1 (x, (λ octets carries. none_some octets (sym f.0 ∙ octets_are x.lines octets carries)))
      | inr y ↦
          let carried : Carries x.lines y.0 = octets_carried x.lines y.0 (octets_ok (causes.KeyMgmt medium) (mikey_octets (mikey_value x.lines)) y.0 y.1) in
          elim (after_ok_err (of_message medium (message_of y.0)) _ cause y.2) [
            | inl fails ↦ let f = message_err medium (message_of y.0) cause fails in subst Cause f.2 (x, y.0, carried, inl (f.0, f.1, refl, refl))
            | inr z ↦ elim (stop_if_err (not (eqb z.0.kind 0)) (causes.Mikey medium 1 DataType) cause _ z.2) [
              | inl other ↦ subst Cause other.1 (x, y.0, carried, inr (z.0, message_ok medium (message_of y.0) z.0 z.1, eqb-false z.0.kind 0 (not-true (eqb z.0.kind 0) other.0), refl, refl))
              | inr same ↦ absurd (ok_err _ cause same.1)
            ]
          ]
    ]

    bundle_refused : bundle_in hand medium x.count (mikey_value x.lines) ≡ Err cause → Cause cause
    unfolding bundle_in
    bundle_refused e = elim (after_ok_err (message_in medium 0 (mikey_value x.lines)) _ cause e) [
      | inl fails ↦ none_in fails
      | inr r ↦
          let is = message_read medium 0 (mikey_value x.lines) r.0 r.1 in
          let carried : Carries x.lines r.0.0 = octets_carried x.lines r.0.0 is.0 in
          elim (after_ok_err (of_psk medium (initial_of r.0.0 r.0.1 w.books.pairs w.books.noted w.moment)) _ cause r.2) [
            | inl fails ↦
                let f = psk_err medium (initial_of r.0.0 r.0.1 w.books.pairs w.books.noted w.moment) cause fails in
                subst Cause f.2 (inr (x, r.0.0, r.0.1, carried, (is.1, is.2), psk_speaks w.books w.moment r.0.0 r.0.1 f.0 f.1))
            | inr a ↦ elim (after_ok_err (of_cs medium (streams_of a.0.csb a.0.random a.0.map a.0.policies a.0.tgks x.count)) _ cause a.2) [
              | inl fails ↦
                  let f = cs_err medium (streams_of a.0.csb a.0.random a.0.map a.0.policies a.0.tgks x.count) cause fails in
                  let i = initial_parts r.0.0 r.0.1 w.books.pairs w.books.noted w.moment a.0 (psk_is medium _ a.0 a.1) in
                  let made : Accepted = accepted_with r.0.1 i.0 i.3 in
                  let at : streams_of made.csb made.random made.map made.policies made.tgks x.count ≡ Err f.0 =
                  subst (λ (a : Accepted). streams_of a.csb a.random a.map a.policies a.tgks x.count ≡ Err f.0) (sym i.5) f.1 in
                  subst Cause f.2 (x, r.0.0, r.0.1, carried, (is.1, is.2), accepted r.0.0 r.0.1 a.0 (psk_is medium _ a.0 a.1), sessions_speak r.0.1 x.count i.3 made.random f.0 at)
              | inr y ↦ absurd (ok_err _ cause y.2)
            ]
          ]
    ]

  module _ (s : Sdp) (describes : Describes (side_of way) text s) (fits : FitsCall w id s) (cause : Refusal) where
    of_side : (v : Way) → way ≡ v → Describes (side_of v) text s
    of_side v is = subst (λ v. Describes (side_of v) text s) is describes

    abbrev carries : way ≡ FromSecure → (medium : ℕ) (lines : List (List ℕ)) (count : ℕ) → IsPart w s medium lines count → IsToCarry w id way text medium
    carries is medium lines count part = record { secure = is; offer = s; describes = of_side FromSecure is; fits = fits; lines = lines; count = count; part = part }

    messages_refused : way ≡ FromSecure → has_message s ≡ true → (v : Option (List ℕ)) → mikey_value s.session ≡ v → keying_by_messages hand s v ≡ Err cause → Cause cause
    messages_refused is has (Some value) at e = elim (after_ok_err (bundle_in hand 255 (active_count Secure s.media) (Some value)) _ cause e) [
      | inl fails ↦ bundle_refused 255 (carries is 255 s.session (active_count Secure s.media) (inl (refl, refl, some_line s.session (ap is_some at), refl))) cause
          (ap (bundle_in hand 255 (active_count Secure s.media)) at ∙ fails)
      | inr y ↦ absurd (ok_err _ cause y.2)
    ]
    messages_refused is has None at e = elim (after_ok_err (each_active Secure (λ k m. bundle_in hand k 1 (mikey_value m.lines)) 0 s.media) _ cause e) [
      | inl fails ↦
          let stop = media_stop (λ k m. bundle_in hand k 1 (mikey_value m.lines)) Acceptable carries_acceptable cause 0 s.media fails in
          let first = first_after (λ k m. bundle_in hand k 1 (mikey_value m.lines)) Acceptable carries_acceptable cause s.media stop in
          bundle_refused stop.number (carries is stop.number stop.m.lines 1 (inr (no_value s.session (ap is_some at), some_medium s has at, (stop.m, first, refl, refl)))) cause stop.gives
      | inr y ↦ absurd (ok_err _ cause y.2)
    ]

    lines_refused : way ≡ FromSecure → HasNoMessage s → each_active Secure chosen_in 0 s.media ≡ Err cause → Cause cause
    unfolding crypto_values
    lines_refused is none e =
        let stop = media_stop chosen_in (λ m. (l : CryptoLine) × HasLine m l) has_line cause 0 s.media e in
        let f = sdes_err stop.number (chosen_of (crypto_values stop.m.lines)) cause stop.gives in
        let no = none_chosen stop.m.lines f.0 f.1 in
        subst Cause f.2 (s, of_side FromSecure is, fits, is, no.0, none, (stop.m, first_after chosen_in (λ m. (l : CryptoLine) × HasLine m l) has_line cause s.media stop, no.1))

    secure_refused : way ≡ FromSecure → (b : Bool) → has_message s ≡ b
        → cond b (keying_by_messages hand s (mikey_value s.session)) (after_ok (each_active Secure chosen_in 0 s.media) (λ ls. Ok (PeerLines ls))) ≡ Err cause → Cause cause
    secure_refused is true has e = messages_refused is has (mikey_value s.session) refl e
    secure_refused is false none e = elim (after_ok_err (each_active Secure chosen_in 0 s.media) _ cause e) [
      | inl fails ↦ lines_refused is (has_no s none) fails
      | inr y ↦ absurd (ok_err _ cause y.2)
    ]

    no_pair_with : (peer : List ℕ) → way ≡ MikeyFromPlain peer → (o : Option Pair) → pair_with w.books.pairs peer ≡ o → of_psk 255 (sent_under w.moment noise (ssrcs_of Plain s.media) o) ≡ Err cause → Cause cause
    no_pair_with peer is None none e =
        let f = psk_err 255 (sent_under w.moment noise (ssrcs_of Plain s.media) None) cause e in
        subst Cause f.2 (inl (peer, s, of_side (MikeyFromPlain peer) is, fits, is, refl, sym (err_is {X = Sent} faults.IdUnknown f.0 f.1), each_weaker _ _ (λ p other same. false≢true (sym other ∙ same_octets_true p.peer peer same)) w.books.pairs (find_none (is_with peer) w.books.pairs none)))
    no_pair_with peer is (Some pair) at e = absurd (ok_err _ cause e)

    keying_refused : (v : Way) → way ≡ v → keying_of hand s v ≡ Err cause → Cause cause
    keying_refused FromSecure is e = secure_refused is (has_message s) refl e
    keying_refused SdesFromPlain is e = elim (after_ok_err (each_active Plain (λ k m. Ok (offered_by (noise_of k noise))) 0 s.media) _ cause e) [
      | inl fails ↦ absurd (never Plain (λ k m. offered_by (noise_of k noise)) cause 0 s.media fails)
      | inr y ↦ absurd (ok_err _ cause y.2)
    ]
    keying_refused (MikeyFromPlain peer) is e =
        elim (after_ok_err (of_psk 255 (sent_under w.moment noise (ssrcs_of Plain s.media) (pair_with w.books.pairs peer))) _ cause e) [
          | inl fails ↦ no_pair_with peer is (pair_with w.books.pairs peer) refl fails
          | inr y ↦ absurd (ok_err _ cause y.2)
        ]

  pub offer_refused : ((n : ℕ) → media_of c ≡ Some n → (many : ℕ) → ¬ many ≡ n → IsThere w id (λ d. ¬ many ≡ d.media))
      → ((s : Sdp) → is_other_count (media_of c) (length s.media) ≡ false → FitsCall w id s) → (cause : Refusal) → agreed_offer hand way text ≡ Err cause → Cause cause
  unfolding agreed_offer
  offer_refused counted fits cause e = elim (after_ok_err (described (side_of way) (media_of c) text) _ cause e) [
    | inl fails ↦ text_refused (side_of way) (media_of c) text Cause (λ line fault is. is) (λ s read none. (s, read, none)) (λ s describes n is other. (s, describes, counted n is (length s.media) other)) cause fails
    | inr x ↦ elim (after_ok_err (keying_of hand x.0 way) _ cause x.2) [
      | inl fails ↦ keying_refused x.0 (text_describes (side_of way) (media_of c) text x.0 x.1) (fits x.0 (text_counts (side_of way) (media_of c) text x.0 x.1)) cause way refl fails
      | inr y ↦ absurd (ok_err _ cause y.2)
    ]
  ]
