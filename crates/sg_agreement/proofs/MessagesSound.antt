-- What an accepted message keys is sound.
use Rattle.std.proofs.Common.{◌≡◌, ℕ, List, length, not, eqb, ltb, Option, Some, None, Result, Ok, Err, refl, ap, subst, arith}
use Rattle.std.proofs.lemmas.Bool.{eqb-true, not-false}
use Rattle.std.specs.List.{AllByRecursion}
use Rattle.sg_base.specs.declared.faults.CsFault.{CsFault}
use Rattle.sg_base.specs.declared.faults.MikeyFault.TheVariants.{DataType}
use Rattle.sg_base.specs.declared.faults.PskFault.{PskFault}
use Rattle.sg_base.specs.declared.faults.PskFault.TheVariants.{CacheFull}
use Rattle.sg_base.specs.declared.faults.Refusal.TheVariants.{KeyMgmt, Mikey}
use Rattle.sg_csmap.specs.CryptoSessions.{streams_of}
use Rattle.sg_mikey.specs.Reading as messages
use Rattle.sg_mikey.specs.Spelling.{AreOctets}
use Rattle.sg_mikey.specs.declared.message.Message.{Message}
use Rattle.sg_mikey.specs.declared.message.Tgk.{Tgk}
use Rattle.sg_psk.specs.Accepting.{Accepted, accepted_with, fault_of, initial_of, initial_under, keys_in, unless, with_keys}
use Rattle.sg_psk.specs.Envelope.{enciphered}
use Rattle.sg_psk.specs.Pairs.{pair_named}
use Rattle.sg_psk.specs.Parts.{closing_in, names_in, random_in, stamp_in}
use Rattle.sg_psk.specs.Sending.{Sent, sent_of, sent_under}
use Rattle.sg_psk.specs.declared.pairs.Pair.{Pair}
use Rattle.sg_psk.specs.declared.replays.Noted.{Noted}
use Rattle.sg_session.proofs.Inversions.{after_ok_is, stop_if_is, ok_is}
use Rattle.sg_agreement.proofs.Inversions.{or_refusal_is}
use Rattle.sg_agreement.proofs.MessageKeys.{AreSoundTgks, tgks_sound}
use Rattle.sg_agreement.proofs.MessageOctets.{Found, value_octets, inside_octets, enciphered_octets}
use Rattle.sg_agreement.proofs.SessionsSound.{IsSoundPair, streams_sound}
use Rattle.sg_agreement.specs.Attributes.{mikey_octets}
use Rattle.sg_agreement.specs.Messages.{AtHand, Bundle, bundle_in, message_in}
use Rattle.sg_agreement.specs.Refusals.{or_refusal, of_message, of_psk, of_cs}

pub psk_is : {X : Type 0} (k : ℕ) (r : Result X PskFault) (x : X) → of_psk k r ≡ Ok x → r ≡ Ok x
psk_is k (Ok y) x e = let same : y ≡ x = cc in ap Ok same
psk_is k (Err f) x e = absurd cc

pub cs_is : {X : Type 0} (k : ℕ) (r : Result X CsFault) (x : X) → of_cs k r ≡ Ok x → r ≡ Ok x
cs_is k (Ok y) x e = let same : y ≡ x = cc in ap Ok same
cs_is k (Err f) x e = absurd cc

message_is : (k : ℕ) (r : Result Message messages.Place) (m : Message) → of_message k r ≡ Ok m → r ≡ Ok m
message_is k (Ok n) m e = let same : n ≡ m = cc in ap Ok same
message_is k (Err f) m e = absurd cc

-- ---- reading

abbrev pub IsRead : ℕ → Option (List ℕ) → List ℕ × Message → Type 0
IsRead kind value r = (mikey_octets value ≡ Some r.0) × ((messages.message_of r.0 ≡ Ok r.1) × (r.1.kind ≡ kind))

pub read_is : (medium kind : ℕ) (value : Option (List ℕ)) (r : List ℕ × Message) → message_in medium kind value ≡ Ok r → IsRead kind value r
unfolding message_in
read_is medium kind value r e =
    let a = after_ok_is (or_refusal (KeyMgmt medium) (mikey_octets value)) _ r e in
    let b = after_ok_is (of_message medium (messages.message_of a.0)) _ r a.2 in
    let c = stop_if_is (not (eqb b.0.kind kind)) (Mikey medium 1 DataType) (Ok (a.0, b.0)) r b.2 in
    subst (IsRead kind value) (ok_is (a.0, b.0) r c.1)
    (or_refusal_is (KeyMgmt medium) (mikey_octets value) a.0 a.1, (message_is medium (messages.message_of a.0) b.0 b.1, eqb-true b.0.kind kind (not-false _ c.0)))

-- ---- the peer's message

keys_are : Found → (octets : List ℕ) (m : Message) → AreOctets octets → messages.message_of octets ≡ Ok m → (pair : Pair) (tgks : List Tgk) → keys_in m pair ≡ Some tgks → AreSoundTgks tgks
unfolding keys_in
keys_are found octets m are read pair tgks e =
    tgks_sound (enciphered pair.key m.csb (random_in m.payloads) (stamp_in m.payloads) (closing_in m.payloads).octets) tgks
    (enciphered_octets pair.key m.csb (random_in m.payloads) (stamp_in m.payloads) (closing_in m.payloads).octets (inside_octets found octets m are read)) e

unless_is : {X : Type 0} (o : Option PskFault) (next : Result X PskFault) (x : X) → unless o next ≡ Ok x → next ≡ Ok x
unless_is None next x e = e
unless_is (Some f) next x e = absurd cc

abbrev IsSoundAccepted : Accepted → Type 0
IsSoundAccepted a = AreSoundTgks a.tgks

with_keys_sound : (m : Message) (pair : Pair) (kept : ℕ) (keys : Option (List Tgk)) (a : Accepted) → ((tgks : List Tgk) → keys ≡ Some tgks → AreSoundTgks tgks)
    → with_keys m pair kept keys ≡ Ok a → IsSoundAccepted a
unfolding with_keys
with_keys_sound m pair kept None a all e = absurd cc
with_keys_sound m pair kept (Some tgks) a all e =
    let p = stop_if_is (ltb 1020 kept) CacheFull (Ok (accepted_with m pair tgks)) a e in
    subst IsSoundAccepted (ok_is (accepted_with m pair tgks) a p.1) (all tgks refl)

under_sound : Found → (octets : List ℕ) (m : Message) → AreOctets octets → messages.message_of octets ≡ Ok m → (kept : List Noted) (now : ℕ) (pair : Option Pair) (a : Accepted)
    → initial_under octets m kept now pair ≡ Ok a → IsSoundAccepted a
unfolding initial_under
under_sound found octets m are read kept now None a e = absurd cc
under_sound found octets m are read kept now (Some pair) a e =
    with_keys_sound m pair (length kept) (keys_in m pair) a (λ tgks is. keys_are found octets m are read pair tgks is)
    (unless_is (fault_of octets m pair kept now) (with_keys m pair (length kept) (keys_in m pair)) a e)

initial_sound : Found → (octets : List ℕ) (m : Message) → AreOctets octets → messages.message_of octets ≡ Ok m → (pairs : List Pair) (kept : List Noted) (now : ℕ) (a : Accepted)
    → initial_of octets m pairs kept now ≡ Ok a → IsSoundAccepted a
unfolding initial_of
initial_sound found octets m are read pairs kept now a e = under_sound found octets m are read kept now (pair_named pairs (names_in m.payloads)) a e

abbrev pub IsSoundBundle : Bundle → Type 0
IsSoundBundle b = AllByRecursion IsSoundPair b.streams

pub bundle_sound : Found → (h : AtHand) (medium count : ℕ) (value : Option (List ℕ)) (b : Bundle) → bundle_in h medium count value ≡ Ok b → IsSoundBundle b
unfolding bundle_in
bundle_sound found h medium count value b e =
    let p = after_ok_is (message_in medium 0 value) _ b e in
    let read = read_is medium 0 value p.0 p.1 in
    let q = after_ok_is (of_psk medium (initial_of p.0.0 p.0.1 h.pairs h.noted h.now)) _ b p.2 in
    let a : Accepted = q.0 in
    let r = after_ok_is (of_cs medium (streams_of a.csb a.random a.map a.policies a.tgks count)) _ b q.2 in
    let tgks = initial_sound found p.0.0 p.0.1 (value_octets value p.0.0 read.0) read.1.0 h.pairs h.noted h.now a (psk_is medium _ a q.1) in
    subst IsSoundBundle (ok_is _ b r.2) (streams_sound a.csb a.random a.policies a.tgks tgks a.map count r.0 (cs_is medium _ r.0 r.1))

-- ---- the gateway's message

pub sent_sound : (now : ℕ) (noise ssrcs : List ℕ) (pair : Option Pair) (s : Sent) → sent_under now noise ssrcs pair ≡ Ok s → AreSoundTgks s.tgks
sent_sound now noise ssrcs None s e = absurd cc
sent_sound now noise ssrcs (Some pair) s e =
    subst (λ (s : Sent). AreSoundTgks s.tgks) (ok_is (sent_of pair now noise ssrcs) s e) (record { mkis = ((tt, tt), tt); some = omega arith; few = omega arith })
