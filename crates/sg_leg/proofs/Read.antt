-- Messages, by their stages.
use Rattle.std.proofs.Common.{slice_get, zero, suc, ◌≡◌, ◌≤◌, ◌<◌, ◌+◌, ◌++◌, ◌∷◌, [], ℕ, Bool, true, false, cond, not, eqb, ltb, List, length, drop, get_or, Option, Some, None, Result, Ok, Err, refl, sym, ap, ◌∙◌, subst, arith}
use Rattle.std.specs.Prelude.{IfSome}
use Rattle.std.proofs.lemmas.Bool.{ltb-false}
use Rattle.std.proofs.lemmas.List.{append-nil}
use Rattle.sg_agreement.proofs.Walks.{active_at}
use Rattle.sg_agreement.specs.EachMedium.{if_active, each_active}
use Rattle.sg_agreement.specs.Sides.{is_active}
use Rattle.sg_agreement.specs.Walks.{prefixed}
use Rattle.sg_base.specs.declared.addresses.Side.TheVariants.{Secure}
use Rattle.sg_base.specs.declared.faults.PskFault.TheVariants.{CacheFull}
use Rattle.sg_mikey.specs.declared.message.Tgk.{Tgk}
use Rattle.sg_psk.specs.Accepting.{accepted_with, fault_of, initial_under, keys_in, unless, with_keys}
use Rattle.sg_psk.specs.Pairs.{pair_named}
use Rattle.sg_psk.specs.Parts.{names_in}
use Rattle.sg_sdp.specs.declared.medium.Medium as descriptions
use Rattle.sg_leg.proofs.Planning.{pairs_append}
use Rattle.sg_leg.specs.Open.{IsBundleIf}
use Rattle.sg_leg.specs.Pairs.{EachPair}
use Rattle.sg_agreement.specs.Attributes.{mikey_octets}
use Rattle.sg_agreement.specs.Messages.{AtHand, Bundle, message_in, bundle_in}
use Rattle.sg_agreement.specs.Refusals.{or_refusal, of_message, of_psk, of_cs}
use Rattle.sg_base.specs.declared.faults.Fault.{Fault}
use Rattle.sg_base.specs.declared.faults.Fault.TheVariants.{Refused, NoMemory}
use Rattle.sg_base.specs.declared.faults.MikeyFault.TheVariants.{DataType}
use Rattle.sg_base.specs.declared.faults.PskFault.{PskFault}
use Rattle.sg_base.specs.declared.faults.Refusal.{Refusal}
use Rattle.sg_base.specs.declared.faults.Refusal.TheVariants.{KeyMgmt, Mikey}
use Rattle.sg_csmap.specs.CryptoSessions as cs
use Rattle.sg_csmap.specs.CryptoSessions.{streams_of}
use Rattle.sg_csmap.specs.declared.faults.CsError.{CsError}
use Rattle.sg_csmap.specs.declared.faults.CsError.TheVariants as cs_errors
use Rattle.sg_csmap.specs.declared.sessions.StreamKeys.{StreamKeys}
use Rattle.sg_mikey.specs.Reading.{Answers, Place, message_of}
use Rattle.sg_mikey.specs.declared.faults.ReadMikeyFault.{ReadMikeyFault}
use Rattle.sg_mikey.specs.declared.faults.ReadMikeyFault.TheVariants as mikey
use Rattle.sg_mikey.specs.declared.message.Message.{Message}
use Rattle.sg_psk.specs.Accepting.{Accepted, initial_of}
use Rattle.sg_psk.specs.Sending.{Sent}
use Rattle.sg_psk.specs.StandsFor as psk
use Rattle.sg_psk.specs.StandsFor.{IsAccepted, AreSent, IsSent, accepted_as}
use Rattle.sg_psk.specs.declared.accepting.Initial.{Initial}
use Rattle.sg_psk.specs.declared.sending.Waiting.{Waiting}
use Rattle.sg_psk.specs.declared.faults.PskError.{PskError}
use Rattle.sg_psk.specs.declared.faults.PskError.TheVariants as psk_errors
use Rattle.sg_psk.specs.declared.pairs.Pair.{Pair}
use Rattle.sg_psk.specs.declared.replays.Noted.{Noted}
use Rattle.sg_session.specs.Stages.{after_ok, stop_if}
use Rattle.sg_agreement.specs.Keying as agreed
use Rattle.sg_leg.specs.Answering.{Tells, Gives}
use Rattle.sg_leg.specs.Messages.{IsAtHand, message_fault, psk_fault, cs_fault, of_kind, read_of}
use Rattle.sg_leg.specs.Open.{IsBundleOf}
use Rattle.sg_leg.specs.declared.keying.Bundle as kept

-- ---- reading

kind_ok : (medium kind : ℕ) (octets : List ℕ) (m n : Message) (b : Bool) → cond b (Err (Refused (Mikey medium 1 DataType))) (Ok m) ≡ Ok n → ◌≡◌ {A = Result (List ℕ × Message) Refusal} (stop_if b (Mikey medium 1 DataType) (Ok (octets, m))) (Ok (octets, n))
kind_ok medium kind octets m n true e = absurd cc
kind_ok medium kind octets m n false e = let same : m ≡ n = cc in ap (λ m. Ok (octets, m)) same

kind_err : (medium kind : ℕ) (octets : List ℕ) (m : Message) (fault : Fault) (b : Bool) → cond b (Err (Refused (Mikey medium 1 DataType))) (Ok m) ≡ Err fault
    → Tells {X = List ℕ × Message} (Err fault) (stop_if b (Mikey medium 1 DataType) (Ok (octets, m)))
kind_err medium kind octets m fault true e = let same : Refused (Mikey medium 1 DataType) ≡ fault = cc in subst (λ f. Tells {X = List ℕ × Message} (Err f) (Err (Mikey medium 1 DataType))) same refl
kind_err medium kind octets m fault false e = absurd cc

module _ (medium kind : ℕ) (octets : List ℕ) where
  read_as : (r : Result Message Place) → message_of octets ≡ r → read_of medium kind octets ≡ after_ok (of_message medium r) (λ m. stop_if {X = List ℕ × Message} (not (eqb m.kind kind)) (Mikey medium 1 DataType) (Ok (octets, m)))
  unfolding read_of
  read_as r e = ap (λ r. after_ok (of_message medium r) (λ m. stop_if (not (eqb m.kind kind)) (Mikey medium 1 DataType) (Ok (octets, m)))) e

  pub read_ok : (m n : Message) → message_of octets ≡ Ok m → of_kind medium kind m ≡ Ok n → read_of medium kind octets ≡ Ok (octets, n)
  read_ok m n e k = read_as (Ok m) e ∙ kind_ok medium kind octets m n (not (eqb m.kind kind)) k

  pub read_other : (m : Message) (fault : Fault) → message_of octets ≡ Ok m → of_kind medium kind m ≡ Err fault → Tells {X = List ℕ × Message} (Err fault) (read_of medium kind octets)
  read_other m fault e k = subst (λ r. Tells {X = List ℕ × Message} (Err fault) r) (sym (read_as (Ok m) e)) (kind_err medium kind octets m fault (not (eqb m.kind kind)) k)

  pub unread : (f : ReadMikeyFault) → Answers (Err f) (message_of octets) → Tells {X = List ℕ × Message} (Err (message_fault medium f)) (read_of medium kind octets)
  unread (mikey.Mikey offset fault) e = read_as (Err (record { offset = offset; fault = fault })) e
  unread mikey.NoMemory e = tt

-- of an attribute's value
module _ (medium kind : ℕ) (value : Option (List ℕ)) where
  message_as : (o : Option (List ℕ)) → mikey_octets value ≡ o → message_in medium kind value ≡ after_ok (or_refusal (KeyMgmt medium) o) (read_of medium kind)
  unfolding message_in read_of
  message_as o e = ap (λ o. after_ok (or_refusal (KeyMgmt medium) o) (read_of medium kind)) e

  pub none_there : mikey_octets value ≡ None → message_in medium kind value ≡ Err (KeyMgmt medium)
  none_there e = message_as None e

  pub there_is : (octets : List ℕ) → mikey_octets value ≡ Some octets → read_of medium kind octets ≡ message_in medium kind value
  there_is octets e = sym (message_as (Some octets) e)

-- ---- a bundle

module _ (h : AtHand) (now : ℕ) (pairs : List Pair) (noted : List Noted) (at : IsAtHand h now pairs noted) (medium count : ℕ) (value : Option (List ℕ)) where
  abbrev Of : kept.Bundle → Bundle → Type 0
  Of = IsBundleOf pairs

  bundle_as : (r : Result (List ℕ × Message) Refusal) → message_in medium 0 value ≡ r → bundle_in h medium count value
      ≡ after_ok r (λ read. after_ok (of_psk medium (initial_of read.0 read.1 pairs noted now)) (λ a. after_ok (of_cs medium (streams_of a.csb a.random a.map a.policies a.tgks count)) (λ streams. Ok (record { initial = a; streams = streams }))))
  unfolding bundle_in
  bundle_as r e = λ i. after_ok (e i) (λ read. after_ok (of_psk medium (initial_of read.0 read.1 (at.pairs_are i) (at.noted_are i) (at.now_is i))) (λ a. after_ok (of_cs medium (streams_of a.csb a.random a.map a.policies a.tgks count)) (λ streams. Ok (record { initial = a; streams = streams }))))

  pub no_message : (fault : Fault) → Tells {X = List ℕ × Message} (Err fault) (message_in medium 0 value) → Gives Of (Err fault) (bundle_in h medium count value)
  no_message (Refused cause) e = bundle_as (Err cause) e
  no_message NoMemory e = tt

  module _ (octets : List ℕ) (m : Message) (read : message_in medium 0 value ≡ Ok (octets, m)) where
    initial_as : (r : Result Accepted PskFault) → initial_of octets m pairs noted now ≡ r → bundle_in h medium count value
        ≡ after_ok (of_psk medium r) (λ a. after_ok (of_cs medium (streams_of a.csb a.random a.map a.policies a.tgks count)) (λ streams. Ok (record { initial = a; streams = streams })))
    initial_as r e = bundle_as (Ok (octets, m)) read ∙ ap (λ r. after_ok (of_psk medium r) (λ a. after_ok (of_cs medium (streams_of a.csb a.random a.map a.policies a.tgks count)) (λ streams. Ok (record { initial = a; streams = streams })))) e

    pub not_accepted : (e : PskError) → psk.Gives (IsAccepted pairs) (Err e) (initial_of octets m pairs noted now) → Gives Of (Err (psk_fault medium e)) (bundle_in h medium count value)
    not_accepted (psk_errors.Psk fault) e = initial_as (Err fault) e
    not_accepted psk_errors.NoMemory e = tt

    module _ (i : Initial) where
      Accepts : Result Accepted PskFault → Type 0
      Accepts r = psk.Gives (IsAccepted pairs) (Ok i) r

      accepted_of : (r : Result Accepted PskFault) → psk.Gives (IsAccepted pairs) (Ok i) r → (a : Accepted) × (r ≡ Ok a) × IsAccepted pairs i a
      accepted_of (Ok a) is = (a, refl, is)
      accepted_of (Err fault) is = absurd is

      same_streams : (a : Accepted) → IsAccepted pairs i a → streams_of i.csb i.random i.map i.policies i.tgks.keys count ≡ streams_of a.csb a.random a.map a.policies a.tgks count
      same_streams a is = ap (λ (a : Accepted). streams_of a.csb a.random a.map a.policies a.tgks count) is.same

      pub bundled : psk.Gives (IsAccepted pairs) (Ok i) (initial_of octets m pairs noted now) → (ss : List (StreamKeys × StreamKeys)) → streams_of i.csb i.random i.map i.policies i.tgks.keys count ≡ Ok ss
          → (b : Bundle) × (bundle_in h medium count value ≡ Ok b) × IsBundleOf pairs (record { initial = i; streams = ss }) b
      bundled given ss e =
          let a = accepted_of (initial_of octets m pairs noted now) given in (
            record { initial = a.0; streams = ss },
            initial_as (Ok a.0) a.1 ∙ ap (λ r. after_ok (of_cs medium r) (λ streams. Ok (record { initial = a.0; streams = streams }))) (sym (same_streams a.0 a.2) ∙ e),
            record { initial = a.2; streams = refl },
          )

      pub not_served : psk.Gives (IsAccepted pairs) (Ok i) (initial_of octets m pairs noted now) → (f : CsError) → cs.GivesList {X = StreamKeys × StreamKeys} (Err f) (streams_of i.csb i.random i.map i.policies i.tgks.keys count)
          → Gives Of (Err (cs_fault medium f)) (bundle_in h medium count value)
      not_served given (cs_errors.Cs fault) e =
          let a = accepted_of (initial_of octets m pairs noted now) given in
          initial_as (Ok a.0) a.1 ∙ ap (λ r. after_ok (of_cs medium r) (λ streams. Ok (record { initial = a.0; streams = streams }))) (sym (same_streams a.0 a.2) ∙ e)
      not_served given cs_errors.NoMemory e = tt

-- ---- the gateway's own message

pub own_sent : (pairs : List Pair) (made : List ℕ × Waiting) (r : Result Sent PskFault) → psk.Gives (AreSent pairs) (Ok made) r
    → (s : Sent) × (after_ok (of_psk 255 r) (λ (s : Sent). Ok (agreed.OwnMessage s)) ≡ Ok (agreed.OwnMessage s)) × AreSent pairs made s
own_sent pairs made (Ok s) is = (s, refl, is)
own_sent pairs made (Err fault) is = absurd is

-- ---- room for what is noted

with_keys_room : (m : Message) (pair : Pair) (kept : ℕ) (o : Option (List Tgk)) (a : Accepted) → with_keys m pair kept o ≡ Ok a → kept ≤ 1020
unfolding with_keys
with_keys_room m pair kept None a e = absurd cc
with_keys_room m pair kept (Some tgks) a e = go (ltb 1020 kept) refl e
  where
    go : (b : Bool) → ltb 1020 kept ≡ b → cond b (Err CacheFull) (Ok (accepted_with m pair tgks)) ≡ Ok a → kept ≤ 1020
    go true is e = absurd cc
    go false is e = let le = ltb-false 1020 kept is in omega (arith, le)

unless_room : (kept : ℕ) (f : Option PskFault) (r : Result Accepted PskFault) (a : Accepted) → (r ≡ Ok a → kept ≤ 1020) → unless f r ≡ Ok a → kept ≤ 1020
unless_room kept None r a low e = low e
unless_room kept (Some f) r a low e = absurd cc

under_room : (octets : List ℕ) (m : Message) (kept : List Noted) (now : ℕ) (o : Option Pair) (a : Accepted) → initial_under octets m kept now o ≡ Ok a → length kept ≤ 1020
unfolding initial_under
under_room octets m kept now None a e = absurd cc
under_room octets m kept now (Some pair) a e =
    unless_room (length kept) (fault_of octets m pair kept now) (with_keys m pair (length kept) (keys_in m pair)) a (with_keys_room m pair (length kept) (keys_in m pair) a) e

initial_room : (octets : List ℕ) (m : Message) (pairs : List Pair) (kept : List Noted) (now : ℕ) (a : Accepted) → initial_of octets m pairs kept now ≡ Ok a → length kept ≤ 1020
unfolding initial_of
initial_room octets m pairs kept now a e = under_room octets m kept now (pair_named pairs (names_in m.payloads)) a e

given_room : (pairs : List Pair) (kept : List Noted) (octets : List ℕ) (m : Message) (now : ℕ) (i : Initial) (r : Result Accepted PskFault) → initial_of octets m pairs kept now ≡ r → psk.Gives (IsAccepted pairs) (Ok i) r → length kept ≤ 1020
given_room pairs kept octets m now i (Ok a) e is = initial_room octets m pairs kept now a e
given_room pairs kept octets m now i (Err f) e is = absurd is

pub has_room : (pairs : List Pair) (kept : List Noted) (octets : List ℕ) (m : Message) (now : ℕ) (i : Initial) → psk.Gives (IsAccepted pairs) (Ok i) (initial_of octets m pairs kept now) → length kept ≤ 1020
has_room pairs kept octets m now i is = given_room pairs kept octets m now i (initial_of octets m pairs kept now) refl is

-- ---- one medium, and a walk

pub one_bundle : (h : AtHand) (pairs : List Pair) (count k : ℕ) (value : Option (List ℕ)) (on : Bool) (b : kept.Bundle) → on ≡ true → (c : Bundle) × (bundle_in h k count value ≡ Ok c) × IsBundleOf pairs b c
    → (o : Option Bundle) × (if_active on (bundle_in h k count value) ≡ Ok o) × IsBundleIf pairs (Some b) o
one_bundle h pairs count k value true b is (c, e, of) = (Some c, ap (λ r. after_ok r (λ x. Ok (Some x))) e, of)
one_bundle h pairs count k value false b is p = absurd cc

pairs_push : {X Y : Type 0} (R : X → Y → Type 0) (xs : List X) (ys : List Y) (x : X) (y : Y) → EachPair R xs ys → R x y → EachPair R (xs ++ x ∷ []) (ys ++ y ∷ [])
pairs_push R xs ys x y p q = pairs_append R xs (x ∷ []) ys (y ∷ []) p (q, tt)

module _ (pairs : List Pair) (value : ℕ → descriptions.Medium → Result Bundle Refusal) (i : ℕ) (m : descriptions.Medium) (ms : List descriptions.Medium) (lt : i < length ms) (at : m ≡ get_or ms i m)
    (so : List (Option kept.Bundle)) where
  pub walk_next : (done : List (Option Bundle)) × EachPair (IsBundleIf pairs) so done × (prefixed done (each_active Secure value i (drop i ms)) ≡ each_active Secure value 0 ms)
      → (x : Option kept.Bundle) → (o : Option Bundle) × (if_active (is_active Secure m) (value i m) ≡ Ok o) × IsBundleIf pairs x o
      → (so' : List (Option kept.Bundle)) → so' ≡ so ++ x ∷ []
      → (done : List (Option Bundle)) × EachPair (IsBundleIf pairs) so' done × (prefixed done (each_active Secure value (i + 1) (drop (i + 1) ms)) ≡ each_active Secure value 0 ms)
  walk_next (done, each, e) x (o, is, of) so' pushed = (
    done ++ o ∷ [],
    subst (λ l. EachPair (IsBundleIf pairs) l (done ++ o ∷ [])) (sym pushed) (pairs_push (IsBundleIf pairs) so done x o each of),
    sym (active_at Secure value done i m ms lt (sym at) ∙ ap (λ r. after_ok r (λ x. prefixed (done ++ x ∷ []) (each_active Secure value (i + 1) (drop (i + 1) ms)))) is) ∙ e,
  )

  pub walk_ends : (done : List (Option Bundle)) × EachPair (IsBundleIf pairs) so done × (prefixed done (each_active Secure value i (drop i ms)) ≡ each_active Secure value 0 ms)
      → (fault : Fault) → Gives (IsBundleIf pairs) (Err fault) (if_active (is_active Secure m) (value i m)) → Gives (EachPair (IsBundleIf pairs)) (Err fault) (each_active Secure value 0 ms)
  walk_ends (done, each, e) (Refused cause) is =
      sym e ∙ active_at Secure value done i m ms lt (sym at) ∙ ap (λ r. after_ok r (λ x. prefixed (done ++ x ∷ []) (each_active Secure value (i + 1) (drop (i + 1) ms)))) is
  walk_ends (done, each, e) NoMemory is = tt

pub walk_done : (pairs : List Pair) (value : ℕ → descriptions.Medium → Result Bundle Refusal) (i : ℕ) (ms : List descriptions.Medium) (so : List (Option kept.Bundle)) → drop i ms ≡ []
    → (done : List (Option Bundle)) × EachPair (IsBundleIf pairs) so done × (prefixed done (each_active Secure value i (drop i ms)) ≡ each_active Secure value 0 ms)
    → (done : List (Option Bundle)) × (each_active Secure value 0 ms ≡ Ok done) × EachPair (IsBundleIf pairs) so done
walk_done pairs value i ms so none (done, each, e) = (done, sym e ∙ ap (λ l. prefixed done (each_active Secure value i l)) none ∙ ap Ok (append-nil done), each)

pub moved : (pairs : List Pair) (value : ℕ → descriptions.Medium → Result Bundle Refusal) (i : ℕ) (ms : List descriptions.Medium) (so so' : List (Option kept.Bundle)) → so ≡ so'
    → (done : List (Option Bundle)) × EachPair (IsBundleIf pairs) so done × (prefixed done (each_active Secure value i (drop i ms)) ≡ each_active Secure value 0 ms)
    → (done : List (Option Bundle)) × EachPair (IsBundleIf pairs) so' done × (prefixed done (each_active Secure value i (drop i ms)) ≡ each_active Secure value 0 ms)
moved pairs value i ms so so' same (done, each, e) = (done, subst (λ so. EachPair (IsBundleIf pairs) so done) same each, e)

abbrev HasRoomIn : ℕ → List (Option kept.Bundle) → Type 0
HasRoomIn n so = (i : ℕ) (b : kept.Bundle) → slice_get so i ≡ Some (Some b) → n ≤ 1020

pushed_room : (n : ℕ) (so : List (Option kept.Bundle)) (x : Option kept.Bundle) → HasRoomIn n so → IfSome x (λ _. n ≤ 1020) → HasRoomIn n (so ++ x ∷ [])
pushed_room n [] (Some a) room here zero b e = here
pushed_room n (y ∷ so) x room here zero b e = room zero b e
pushed_room n (y ∷ so) x room here (suc i) b e = pushed_room n so x (λ i b e. room (suc i) b e) here i b e
pushed_room n [] None room here zero b e = absurd cc
pushed_room n [] x room here (suc i) b e = absurd cc

pub room_next : (n : ℕ) (so : List (Option kept.Bundle)) (x : Option kept.Bundle) → HasRoomIn n so → IfSome x (λ _. n ≤ 1020) → (so' : List (Option kept.Bundle)) → so' ≡ so ++ x ∷ [] → HasRoomIn n so'
room_next n so x room here so' pushed = subst (HasRoomIn n) (sym pushed) (pushed_room n so x room here)

-- ---- in the session part, or in the media

pub opened_with : {X A : Type 0} (Is : X → A → Type 0) (make : A → agreed.Keying) (x : X) (r : Result A Refusal) → Gives Is (Ok x) r → (a : A) × (◌≡◌ {A = Result agreed.Keying Refusal} (after_ok r (λ a. Ok (make a))) (Ok (make a))) × Is x a
opened_with Is make x r (a, e, is) = (a, ap (λ r. after_ok r (λ a. Ok (make a))) e, is)
