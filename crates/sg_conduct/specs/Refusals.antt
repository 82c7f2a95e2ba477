-- A signal that is refused tells one cause, of the call that it names, and nothing else. The world before shows the cause, or what
-- the signal brings does. And where the world bars a signal, the signal is refused, by that cause.
use Rattle.std.specs.Prelude.{◌≡◌, ◌⊎◌, ◌<◌, ◌≤◌, ℕ, ◌*◌, pos, ◌-ℤ◌, true, List, [], ◌∷◌, ◌++◌, length, filter, Option, Some, None, Ok, Err}
use Rattle.std.specs.List.{All, AllByRecursion, AllPairs, Any}
use Rattle.sg_agreement.specs.Keying.{Offer}
use Rattle.sg_agreement.specs.Manual.{ManualCall}
use Rattle.sg_agreement.specs.Sides.{is_active, side_of}
use Rattle.sg_agreement.specs.TextLines.{HasLine, HasNoMessage, IsMessageLine}
use Rattle.sg_agreement.specs.declared.ways.Way.{Way}
use Rattle.sg_agreement.specs.declared.ways.Way.TheVariants.{FromSecure, MikeyFromPlain}
use Rattle.sg_base.specs.Keys.{Master}
use Rattle.sg_base.specs.declared.addresses.CallId.{CallId}
use Rattle.sg_base.specs.declared.addresses.Side.TheVariants.{Secure, Plain}
use Rattle.sg_base.specs.declared.faults.CsFault.{CsFault}
use Rattle.sg_base.specs.declared.faults.CsFault.TheVariants.{CsCount, PolicyMissing, PolicyValue}
use Rattle.sg_base.specs.declared.faults.MikeyFault.{MikeyFault}
use Rattle.sg_base.specs.declared.faults.MikeyFault.TheVariants.{DataType}
use Rattle.sg_base.specs.declared.faults.PskFault.{PskFault}
use Rattle.sg_base.specs.declared.faults.PskFault.TheVariants as faults
use Rattle.sg_base.specs.declared.faults.Refusal.{Refusal}
use Rattle.sg_base.specs.declared.faults.Refusal.TheVariants as causes
use Rattle.sg_base.specs.declared.faults.SdesFault.TheVariants.{NoLine}
use Rattle.sg_hmac.specs.Hmac.{hmac_sha1}
use Rattle.sg_hmac.specs.Labels.{authentication_key}
use Rattle.sg_mikey.specs.Reading.{Place, message_of}
use Rattle.sg_mikey.specs.declared.message.CsEntry.{CsEntry}
use Rattle.sg_mikey.specs.declared.message.Message.{Message}
use Rattle.sg_mikey.specs.declared.message.Tgk.{Tgk}
use Rattle.sg_mikey.specs.declared.policy.Policy.{Policy}
use Rattle.sg_outcome.specs.declared.outcomes.Outcome.{Outcome}
use Rattle.sg_outcome.specs.declared.outcomes.Outcome.TheVariants.{Refused, Ended}
use Rattle.sg_outcome.specs.declared.outcomes.Why.{Why}
use Rattle.sg_psk.specs.Envelope.{before_mac, enciphered}
use Rattle.sg_psk.specs.KeyData.{tgks_of}
use Rattle.sg_psk.specs.Parts.{closing_in, names_in, policies_in, random_in, stamp_in}
use Rattle.sg_psk.specs.declared.pairs.Pair.{Pair}
use Rattle.sg_psk.specs.declared.replays.Noted.{Noted}
use Rattle.sg_sdes.specs.declared.lines.CryptoLine.{CryptoLine}
use Rattle.sg_sdp.specs.Reading.{description_of}
use Rattle.sg_sdp.specs.declared.medium.Medium as descriptions
use Rattle.sg_sdp.specs.declared.sdp.Sdp.{Sdp}
use Rattle.sg_session.specs.Ring.{Installed}
use Rattle.sg_gateway.specs.Authentic.{AreNamesOf, IsTimely, milliseconds_of}
use Rattle.sg_gateway.specs.CryptoSessions.{Carries}
use Rattle.sg_gateway.specs.Early.{named}
use Rattle.sg_gateway.specs.Refusing.{IsRefused}
use Rattle.sg_gateway.specs.Runs.{Turn, turns}
use Rattle.sg_gateway.specs.Signals.{Signal, Tick, Psk, Manual, Offered, Answered, Reject, Bye}
use Rattle.sg_gateway.specs.Step.{Event, Signalled}
use Rattle.sg_gateway.specs.World.{Books, Call, World}
use Rattle.sg_conduct.specs.Causes.{IsFull, IsReused, ShowsFault}
use Rattle.sg_conduct.specs.Offers.{Describes, HasPolicy, IsAcceptable, IsFirstNamed}
use Rattle.sg_conduct.specs.Present.{TakesPart}
use Rattle.sg_conduct.specs.Staying.{HasNames}

-- ---- what bars a signal, whatever it brings

-- no call has the id
abbrev pub IsUnknown : World → CallId → Type 0
IsUnknown w id = AllByRecursion (λ c. ¬ c.id ≡ id) w.calls

-- a call of the id is there, and is so
abbrev pub IsThere : World → CallId → (Call → Type 0) → Type 0
IsThere w id P = Any (λ c. (c.id ≡ id) × P c) w.calls

abbrev pub HasOpenOffer : Call → Type 0
HasOpenOffer c = (o : Offer) × (c.offer ≡ Some o)

-- A tick is before the last moment; of a pre-shared key the names are held, or 64 others are; the id of a new call is known, or 256
-- calls are there; that of another signal isn't. An offer comes while one is open or to a call that is keyed manually; what is
-- answered or rejected isn't open (RFC 3264, 4).
abbrev pub IsBarred : World → Signal → Refusal → Type 0
IsBarred w (Tick now) (causes.TickBack last) = (last ≡ w.moment) × (now < w.moment)
IsBarred w (Psk p) causes.PskKnown = HasNames w.books.pairs p
IsBarred w (Psk p) causes.PskFull = (¬ HasNames w.books.pairs p) × (64 ≤ length w.books.pairs)
IsBarred w (Manual h) causes.CallKnown = IsThere w h.id (λ c. Unit {0})
IsBarred w (Manual h) causes.TableFull = IsUnknown w h.id × (256 ≤ length w.calls)
IsBarred w (Offered id way noise text) causes.TableFull = IsUnknown w id × (256 ≤ length w.calls)
IsBarred w (Offered id way noise text) causes.State = IsThere w id (λ c. (c.manual ≡ true) ⊎ HasOpenOffer c)
IsBarred w (Answered id noise text) causes.CallUnknown = IsUnknown w id
IsBarred w (Answered id noise text) causes.State = IsThere w id (λ c. c.offer ≡ None)
IsBarred w (Reject id) causes.CallUnknown = IsUnknown w id
IsBarred w (Reject id) causes.State = IsThere w id (λ c. c.offer ≡ None)
IsBarred w (Bye id) causes.CallUnknown = IsUnknown w id
IsBarred w signal cause = ⊥

-- it has as many media as the call of the id, where that is there (RFC 3264, 8)
abbrev pub FitsCall : World → CallId → Sdp → Type 0
FitsCall w id s = AllByRecursion (λ c. c.id ≡ id → length s.media ≡ c.media) w.calls

-- ---- the keys of a call that is keyed manually (RFC 3711, 9.1)

-- the line's two, the peer's first
abbrev pub AreOfLine : ManualCall → List Master → Type 0
AreOfLine h masters = masters ≡ h.from_peer ∷ (h.to_peer ∷ [])

abbrev pub KeysSpeak : List Installed → ManualCall → Refusal → Type 0
KeysSpeak ring h (causes.KeyReused number) = IsReused ring (AreOfLine h) number
KeysSpeak ring h causes.RingFull = IsFull ring (AreOfLine h)
KeysSpeak ring h other = ⊥

-- ---- an offer's message (RFC 3830, 5.2 to 5.4; RFC 4567, 3.1)

-- they are no message, or one of another kind, as the second octet says
abbrev pub IsNoMessage : List ℕ → ℕ → MikeyFault → Type 0
IsNoMessage octets offset fault =
    ((place : Place) × (message_of octets ≡ Err place) × (place.offset ≡ offset) × (place.fault ≡ fault))
    ⊎ ((m : Message) × (message_of octets ≡ Ok m) × (¬ m.kind ≡ 0) × (offset ≡ 1) × (fault ≡ DataType))

-- they are this message of an initiator
abbrev pub IsMessage : List ℕ → Message → Type 0
IsMessage octets m = (message_of octets ≡ Ok m) × (m.kind ≡ 0)

-- it is of AES in counter mode and HMAC-SHA-1 (4.2.3, 4.2.4)
abbrev pub IsOfAlgorithms : Message → Type 0
IsOfAlgorithms m = ((closing_in m.payloads).cipher ≡ 1) × ((closing_in m.payloads).mac ≡ 1)

-- its MAC is the code of all before it under this key
abbrev pub HasCode : List ℕ → Message → Pair → Type 0
HasCode octets m pair = (closing_in m.payloads).tag ≡ hmac_sha1 (authentication_key pair.key m.csb (random_in m.payloads)) (before_mac octets)

abbrev pub IsNotedIn : List Noted → Message → Pair → Type 0
IsNotedIn noted m pair = Any (λ (n : Noted). (n.peer ≡ pair.peer) × (n.csb ≡ m.csb) × (n.stamp ≡ stamp_in m.payloads)) noted

-- so it is authentic, timely and new
pub record IsGenuine (books : Books) (now : ℕ) (octets : List ℕ) (m : Message) (pair : Pair) : Type 0 where
  pub algorithms : IsOfAlgorithms m
  pub code : HasCode octets m pair
  pub timely : IsTimely now (stamp_in m.payloads)
  pub new : ¬ IsNotedIn books.noted m pair

abbrev pub keys_under : Message → Pair → Option (List Tgk)
keys_under m pair = tgks_of (enciphered pair.key m.csb (random_in m.payloads) (stamp_in m.payloads) (closing_in m.payloads).octets)

-- The first cause why it isn't accepted under this key: it is of other algorithms, has another code, is of another time, or noted;
-- its keys aren't read, or there is no room to note four.
abbrev pub IsNotAccepted : Books → ℕ → List ℕ → Message → Pair → PskFault → Type 0
IsNotAccepted books now octets m pair faults.Algorithm = ¬ IsOfAlgorithms m
IsNotAccepted books now octets m pair faults.BadMac = IsOfAlgorithms m × (¬ HasCode octets m pair)
IsNotAccepted books now octets m pair (faults.Skew stamp moment) =
    IsOfAlgorithms m × HasCode octets m pair × (¬ IsTimely now (stamp_in m.payloads))
    × (stamp ≡ pos (milliseconds_of (stamp_in m.payloads)) -ℤ pos 2208988800000) × (moment ≡ now)
IsNotAccepted books now octets m pair faults.Repeated =
    IsOfAlgorithms m × HasCode octets m pair × IsTimely now (stamp_in m.payloads) × IsNotedIn books.noted m pair
IsNotAccepted books now octets m pair faults.KeyType = IsGenuine books now octets m pair × (keys_under m pair ≡ None)
IsNotAccepted books now octets m pair faults.CacheFull = IsGenuine books now octets m pair × (¬ keys_under m pair ≡ None) × (1020 < length books.noted)
IsNotAccepted books now octets m pair other = ⊥

-- no key is held of its two ends, or it isn't accepted under the first
abbrev pub PskSpeaks : Books → ℕ → List ℕ → Message → PskFault → Type 0
PskSpeaks books now octets m fault =
    ((fault ≡ faults.IdUnknown) × AllByRecursion (λ p. ¬ AreNamesOf p (names_in m.payloads)) books.pairs)
    ⊎ ((pair : Pair) × IsFirstNamed books.pairs (names_in m.payloads) pair × IsNotAccepted books now octets m pair fault)

-- a key is held of its two ends, under the first of which it is genuine and its keys are read, and there is room to note four
abbrev pub IsAccepted : World → List ℕ → Message → Type 0
IsAccepted w octets m =
    (pair : Pair) × IsFirstNamed w.books.pairs (names_in m.payloads) pair × IsGenuine w.books w.moment octets m pair
    × (¬ keys_under m pair ≡ None) × (length w.books.noted ≤ 1020)

-- the medium of this number takes part, and each before it that does is so
pub record IsFirstAfter (P : descriptions.Medium → Type 0) (media : List descriptions.Medium) (number : ℕ) (m : descriptions.Medium) : Type 0 where
  pub before : List descriptions.Medium
  pub behind : List descriptions.Medium
  pub parts : media ≡ before ++ m ∷ behind
  pub place : length before ≡ number
  pub takes : TakesPart Secure m
  pub each : AllByRecursion (λ n. TakesPart Secure n → P n) before

-- The lines that are to carry a message, for so many media: the session part (255) where one stands there, for all that take part.
-- Else, where one stands in some medium, each that takes part, for itself: those before it are acceptable, since each is read,
-- accepted and found to serve before the next is looked at (RFC 4567, 3.1; RFC 3830, 5.2 to 5.4).
abbrev pub IsPart : World → Sdp → ℕ → List (List ℕ) → ℕ → Type 0
IsPart w s medium lines count =
    ((medium ≡ 255) × (lines ≡ s.session) × Any IsMessageLine s.session × (count ≡ length (filter (is_active Secure) s.media)))
    ⊎ (AllByRecursion (λ line. ¬ IsMessageLine line) s.session × Any (λ m. Any IsMessageLine m.lines) s.media
    × ((m : descriptions.Medium) × IsFirstAfter (λ n. IsAcceptable w.books w.moment n.lines 1) s.media medium m
    × (lines ≡ m.lines) × (count ≡ 1)))

-- so in an offer of the secure side
pub record IsToCarry (w : World) (id : CallId) (way : Way) (text : List ℕ) (medium : ℕ) : Type 0 where
  pub secure : way ≡ FromSecure
  pub offer : Sdp
  pub describes : Describes Secure text offer
  pub fits : FitsCall w id offer
  pub lines : List (List ℕ)
  pub count : ℕ
  pub part : IsPart w offer medium lines count

-- no policy has the crypto session's number
abbrev pub LacksPolicy : Message → CsEntry → Type 0
LacksPolicy m entry = AllByRecursion (λ (p : Policy). ¬ p.number ≡ entry.policy) (policies_in m.payloads)

-- the first cause why it doesn't serve: it hasn't two crypto sessions for each medium, or one has no policy, or one that isn't served
-- (6.1.1, 6.10.1)
abbrev pub SessionsSpeak : Message → ℕ → CsFault → Type 0
SessionsSpeak m count CsCount = ¬ length m.map ≡ 2 * count
SessionsSpeak m count PolicyMissing = (length m.map ≡ 2 * count) × Any (LacksPolicy m) m.map
SessionsSpeak m count PolicyValue = (length m.map ≡ 2 * count) × (¬ Any (LacksPolicy m) m.map) × Any (λ entry. ¬ HasPolicy (policies_in m.payloads) entry) m.map

-- ---- an offer

-- It is no description, or lacks an address, or no medium takes part. Else there aren't as many as the call has (RFC 3264, 8); or the
-- first medium has no crypto line that is read, of those that take part, where no line is a message (RFC 4568, 5.1.2); or the first
-- message that isn't acceptable shows the first cause why: it isn't there, isn't read, isn't accepted, or doesn't serve; or for the
-- gateway's own no key is held with the peer.
abbrev pub OfferSpeaks : World → CallId → Way → List ℕ → Refusal → Type 0
OfferSpeaks w id way text (causes.Sdp line fault) = ShowsFault (side_of way) text line fault
OfferSpeaks w id way text causes.NoMedia = (s : Sdp) × (description_of text ≡ Ok s) × AllByRecursion (λ m. ¬ TakesPart (side_of way) m) s.media
OfferSpeaks w id way text causes.MediaCount = (s : Sdp) × Describes (side_of way) text s × IsThere w id (λ c. ¬ length s.media ≡ c.media)
OfferSpeaks w id way text (causes.Sdes medium fault) =
    (s : Sdp) × Describes Secure text s × FitsCall w id s × (way ≡ FromSecure) × (fault ≡ NoLine) × HasNoMessage s
    × ((m : descriptions.Medium) × IsFirstAfter (λ n. (l : CryptoLine) × HasLine n l) s.media medium m × ((l : CryptoLine) → ¬ HasLine m l))
OfferSpeaks w id way text (causes.KeyMgmt medium) = (x : IsToCarry w id way text medium) × ((octets : List ℕ) → ¬ Carries x.lines octets)
OfferSpeaks w id way text (causes.Mikey medium offset fault) =
    (x : IsToCarry w id way text medium) × (octets : List ℕ) × Carries x.lines octets × IsNoMessage octets offset fault
OfferSpeaks w id way text (causes.Psk medium fault) =
    ((peer : List ℕ) × (s : Sdp) × Describes Plain text s × FitsCall w id s × (way ≡ MikeyFromPlain peer) × (medium ≡ 255) × (fault ≡ faults.IdUnknown) × AllByRecursion (λ (p : Pair). ¬ p.peer ≡ peer) w.books.pairs)
    ⊎ ((x : IsToCarry w id way text medium) × (octets : List ℕ) × (m : Message) × Carries x.lines octets × IsMessage octets m × PskSpeaks w.books w.moment octets m fault)
OfferSpeaks w id way text (causes.Cs medium fault) =
    (x : IsToCarry w id way text medium) × (octets : List ℕ) × (m : Message) × Carries x.lines octets × IsMessage octets m × IsAccepted w octets m × SessionsSpeak m x.count fault
OfferSpeaks w id way text other = ⊥

-- ---- a refused signal

-- What it brings speaks against it. Of an answer to an open offer `RefusedAnswerShowsCause` says what does.
abbrev pub Speaks : World → Signal → Refusal → Type 0
Speaks w (Manual h) cause = KeysSpeak w.books.ring h cause
Speaks w (Offered id way noise text) cause = OfferSpeaks w id way text cause
Speaks w (Answered id noise text) cause = IsThere w id HasOpenOffer
Speaks w other cause = ⊥

abbrev pub RefusalShowsCause : Turn → Type 0
RefusalShowsCause t =
    (signal : Signal) → t.event ≡ Signalled signal → IsRefused t
    → (cause : Refusal) × (t.outcomes ≡ Refused (named signal) cause ∷ []) × (IsBarred t.before signal cause ⊎ Speaks t.before signal cause)

abbrev pub BarredIsRefused : Turn → Type 0
BarredIsRefused t =
    (signal : Signal) (cause : Refusal) → t.event ≡ Signalled signal → IsBarred t.before signal cause → t.outcomes ≡ Refused (named signal) cause ∷ []

-- ---- ends

-- of two ends that are told the first is of the lower slot, and they are of two calls
abbrev pub AreInOrder : Outcome → Outcome → Type 0
AreInOrder a b =
    (id id' : CallId) (slot slot' media media' : ℕ) (why why' : Why) → a ≡ Ended id slot media why → b ≡ Ended id' slot' media' why' → (slot < slot') × (¬ id ≡ id')

-- so no end is told twice
abbrev pub EndsAreOnce : Turn → Type 0
EndsAreOnce t = AllPairs AreInOrder t.outcomes

-- So in a run.
pub record RefusalsShowCauses (events : List Event) : Type 0 where
  pub shown : All RefusalShowsCause (turns events)
  pub barred : All BarredIsRefused (turns events)
  pub once : All EndsAreOnce (turns events)
