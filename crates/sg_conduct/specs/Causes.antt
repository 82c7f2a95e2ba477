-- An answer to an open offer is refused by the first cause that its text, its message or the ring shows: of the ring, by the keys that
-- this answer brings.
use Rattle.std.specs.Prelude.{◌≡◌, ◌⊎◌, ◌<◌, ◌≤◌, ℕ, ◌+◌, List, [], ◌∷◌, ◌++◌, length, map, codes, Option, Some, None, Ok, Err}
use Rattle.std.specs.List.{All, AllByRecursion, Any}
use Rattle.sg_agreement.specs.Keying.{Keying, OwnLines, OwnMessage, Offer}
use Rattle.sg_agreement.specs.Sides.{other_side}
use Rattle.sg_base.specs.Keys.{Master}
use Rattle.sg_base.specs.declared.addresses.CallId.{CallId}
use Rattle.sg_base.specs.declared.addresses.Side.{Side}
use Rattle.sg_base.specs.declared.faults.MikeyFault.{MikeyFault}
use Rattle.sg_base.specs.declared.faults.MikeyFault.TheVariants.{DataType}
use Rattle.sg_base.specs.declared.faults.PskFault.{PskFault}
use Rattle.sg_base.specs.declared.faults.PskFault.TheVariants.{BadMac, Algorithm, OtherSession}
use Rattle.sg_base.specs.declared.faults.Refusal.{Refusal}
use Rattle.sg_base.specs.declared.faults.Refusal.TheVariants as causes
use Rattle.sg_base.specs.declared.faults.SdesFault.{SdesFault}
use Rattle.sg_base.specs.declared.faults.SdesFault.TheVariants.{NoLine, Tag, Suite}
use Rattle.sg_base.specs.declared.faults.SdpFault.{SdpFault}
use Rattle.sg_base.specs.declared.faults.SdpFault.TheVariants.{Address}
use Rattle.sg_hmac.specs.Hmac.{hmac_sha1}
use Rattle.sg_hmac.specs.Labels.{authentication_key}
use Rattle.sg_mikey.specs.Reading.{Place, message_of}
use Rattle.sg_mikey.specs.declared.message.Message.{Message}
use Rattle.sg_outcome.specs.declared.outcomes.Outcome.TheVariants.{Refused}
use Rattle.sg_psk.specs.Envelope.{before_mac}
use Rattle.sg_psk.specs.Parts.{closing_in}
use Rattle.sg_psk.specs.Sending.{Sent}
use Rattle.sg_sdes.specs.CryptoOf.{crypto_of}
use Rattle.sg_sdes.specs.declared.lines.CryptoLine.{CryptoLine}
use Rattle.sg_sdp.specs.Reading.{description_of}
use Rattle.sg_sdp.specs.declared.medium.Medium as descriptions
use Rattle.sg_sdp.specs.declared.sdp.Sdp.{Sdp}
use Rattle.sg_session.specs.Ring.{Installed}
use Rattle.sg_gateway.specs.CryptoSessions.{Carries}
use Rattle.sg_gateway.specs.Refusing.{IsRefused}
use Rattle.sg_gateway.specs.Runs.{Turn, after_turn, turns, world_after}
use Rattle.sg_gateway.specs.Signals.{Answered}
use Rattle.sg_gateway.specs.Step.{Event, Signalled}
use Rattle.sg_gateway.specs.World.{Call, call_of, empty}
use Rattle.sg_conduct.specs.Brought.{AreBrought}
use Rattle.sg_conduct.specs.Firsts.{AnswerIsByFirst}
use Rattle.sg_conduct.specs.Manual.{AreApart, IsApartInItself}
use Rattle.sg_conduct.specs.Offers.{Describes, NotesComeWithOffers}
use Rattle.sg_conduct.specs.Present.{TakesPart}
use Rattle.sg_conduct.specs.Staying.{HasBegun, MarksStay, MomentStays, OpenOffersStay, PairsStay, PskIsHeld, RejectedFirstEnds}

-- ---- the text

-- the first of these media that takes part and has no address (RFC 4566, 5.7) has an `m=` line of this number, where that of the first
-- of all has `first`
abbrev pub LacksAddress : Side → ℕ → List descriptions.Medium → ℕ → Type 0
LacksAddress side first [] line = ⊥
LacksAddress side first (m ∷ ms) line =
    (TakesPart side m × (m.address ≡ None) × (line ≡ first))
    ⊎ ((TakesPart side m → (ip : List ℕ) × (m.address ≡ Some ip)) × LacksAddress side (first + 1 + length m.lines) ms line)

-- it is no description, with that first fault, or lacks an address
abbrev pub ShowsFault : Side → List ℕ → ℕ → SdpFault → Type 0
ShowsFault side text line fault =
    (description_of text ≡ Err (line, fault)) ⊎ ((s : Sdp) × (description_of text ≡ Ok s) × (fault ≡ Address) × LacksAddress side (length s.session + 1) s.media line)

-- ---- crypto lines (RFC 4568, 5.1.3)

abbrev pub HasNoValue : List (List ℕ) → Type 0
HasNoValue lines = AllByRecursion (λ line. (value : List ℕ) → ¬ line ≡ codes "a=crypto:" ++ value) lines

-- the first crypto attribute of these lines has this value
abbrev pub IsFirstValue : List (List ℕ) → List ℕ → Type 0
IsFirstValue lines value = (before behind : List (List ℕ)) × (lines ≡ before ++ (codes "a=crypto:" ++ value) ∷ behind) × HasNoValue before

-- of these lines the first that has the tag
abbrev pub HasTag : List CryptoLine → ℕ → CryptoLine → Type 0
HasTag offered tag x = (before behind : List CryptoLine) × (offered ≡ before ++ x ∷ behind) × (x.tag ≡ tag) × AllByRecursion (λ y. ¬ y.tag ≡ tag) before

-- no line that was offered has its tag, or the one that has it is of another suite
abbrev pub IsOfNone : List CryptoLine → CryptoLine → SdesFault → Type 0
IsOfNone offered l fault =
    ((fault ≡ Tag) × AllByRecursion (λ x. ¬ x.tag ≡ l.tag) offered) ⊎ ((fault ≡ Suite) × ((x : CryptoLine) × HasTag offered l.tag x × (¬ x.suite ≡ l.suite)))

-- there is no crypto attribute, or the first isn't read, or names none of these lines
abbrev pub ShowsNoLine : List CryptoLine → List (List ℕ) → SdesFault → Type 0
ShowsNoLine offered lines fault =
    (HasNoValue lines × (fault ≡ NoLine))
    ⊎ ((value : List ℕ) × IsFirstValue lines value × ((crypto_of value ≡ Err fault) ⊎ ((l : CryptoLine) × (crypto_of value ≡ Ok l) × IsOfNone offered l fault)))

-- the first crypto attribute is read, and names one of these lines
abbrev pub NamesLine : List CryptoLine → List (List ℕ) → Type 0
NamesLine offered lines =
    (value : List ℕ) × IsFirstValue lines value × ((l x : CryptoLine) × (crypto_of value ≡ Ok l) × HasTag offered l.tag x × (x.suite ≡ l.suite))

-- a medium stays where it takes part in the offer and in the answer (RFC 3264, 6)
abbrev pub Stays : Side → descriptions.Medium → descriptions.Medium → Type 0
Stays side m n = TakesPart side m × TakesPart (other_side side) n

-- Of the media of the offer, with the gateway's lines for them, and of the answer: the first that stays and doesn't name one of its
-- lines has this number, where the first of all has `first`.
abbrev pub LacksLine : Side → ℕ → List descriptions.Medium → List (Option (List CryptoLine)) → List descriptions.Medium → ℕ → SdesFault → Type 0
LacksLine side first (m ∷ ms) (Some offered ∷ ls) (n ∷ ns) medium fault =
    (Stays side m n × (medium ≡ first) × ShowsNoLine offered n.lines fault) ⊎ ((Stays side m n → NamesLine offered n.lines) × LacksLine side (first + 1) ms ls ns medium fault)
LacksLine side first (m ∷ ms) (None ∷ ls) (n ∷ ns) medium fault = LacksLine side (first + 1) ms ls ns medium fault
LacksLine side first ms ls ns medium fault = ⊥

-- each that stays names one
abbrev pub NameLines : Side → List descriptions.Medium → List (Option (List CryptoLine)) → List descriptions.Medium → Type 0
NameLines side (m ∷ ms) (Some offered ∷ ls) (n ∷ ns) = (Stays side m n → NamesLine offered n.lines) × NameLines side ms ls ns
NameLines side (m ∷ ms) (None ∷ ls) (n ∷ ns) = NameLines side ms ls ns
NameLines side ms ls ns = Unit {0}

-- ---- the description

-- the text describes as many media as were offered (RFC 3264, 6)
abbrev pub FitsOffer : Offer → List ℕ → Sdp → Type 0
FitsOffer o text s = Describes (other_side o.side) text s × (length s.media ≡ length o.description.media)

-- ---- a response (RFC 3830, 5.2; RFC 4567, 3.1)

-- the answer to an offer that is keyed by the gateway's message, in whose session part (255) the response is to stand
pub record IsToRespond (o : Offer) (text : List ℕ) (medium : ℕ) : Type 0 where
  pub answer : Sdp
  pub fits : FitsOffer o text answer
  pub sent : Sent
  pub keying : o.keying ≡ OwnMessage sent
  pub session : medium ≡ 255

-- no octets are read of its first MIKEY attribute
abbrev pub LacksMessage : Offer → List ℕ → ℕ → Type 0
LacksMessage o text medium = (x : IsToRespond o text medium) × ((octets : List ℕ) → ¬ Carries x.answer.session octets)

-- they are no message, or one of another kind, as the second octet says
abbrev pub ShowsNoMessage : Offer → List ℕ → ℕ → ℕ → MikeyFault → Type 0
ShowsNoMessage o text medium offset fault =
    (x : IsToRespond o text medium) × (octets : List ℕ) × Carries x.answer.session octets
    × (((place : Place) × (message_of octets ≡ Err place) × (place.offset ≡ offset) × (place.fault ≡ fault))
    ⊎ ((m : Message) × (message_of octets ≡ Ok m) × (¬ m.kind ≡ 1) × (offset ≡ 1) × (fault ≡ DataType)))

-- of a response: its MAC is HMAC-SHA-1, and the code of all before it with both names and the stamp; it is of the bundle that was
-- sent, with as many crypto sessions
abbrev pub IsOfAlgorithm : Message → Type 0
IsOfAlgorithm m = (closing_in m.payloads).mac ≡ 1

abbrev pub HasResponseCode : Sent → List ℕ → Message → Type 0
HasResponseCode sent octets m = (closing_in m.payloads).tag ≡ hmac_sha1 (authentication_key sent.pair.key sent.csb sent.random) (before_mac octets ++ (sent.pair.own ++ (sent.pair.peer ++ sent.stamp)))

abbrev pub IsOfBundle : Sent → Message → Type 0
IsOfBundle sent m = (m.csb ≡ sent.csb) × (length m.map ≡ length sent.map)

-- the first of these that it isn't
abbrev pub IsNotTo : Sent → List ℕ → Message → PskFault → Type 0
IsNotTo sent octets m fault =
    ((fault ≡ Algorithm) × (¬ IsOfAlgorithm m))
    ⊎ (((fault ≡ BadMac) × IsOfAlgorithm m × (¬ HasResponseCode sent octets m)) ⊎ ((fault ≡ OtherSession) × IsOfAlgorithm m × HasResponseCode sent octets m × (¬ IsOfBundle sent m)))

abbrev pub ShowsNoResponse : Offer → List ℕ → ℕ → PskFault → Type 0
ShowsNoResponse o text medium fault =
    (x : IsToRespond o text medium) × (octets : List ℕ) × (m : Message) × Carries x.answer.session octets × (message_of octets ≡ Ok m) × (m.kind ≡ 1) × IsNotTo x.sent octets m fault

-- ---- all of text and message is as it has to be

abbrev pub IsKeyedBy : Offer → Sdp → Keying → Type 0
IsKeyedBy o s (OwnLines lines) = NameLines o.side o.description.media lines s.media
IsKeyedBy o s (OwnMessage sent) =
    (octets : List ℕ) × (m : Message) × Carries s.session octets × (message_of octets ≡ Ok m) × (m.kind ≡ 1) × IsOfAlgorithm m × HasResponseCode sent octets m × IsOfBundle sent m
IsKeyedBy o s other = Unit {0}

abbrev pub IsKeyed : Offer → List ℕ → Type 0
IsKeyed o text = (s : Sdp) × FitsOffer o text s × IsKeyedBy o s o.keying

-- ---- the ring (RFC 3711, 9.1)

-- these keys come into use one behind the other, each apart from all before it
abbrev pub ComeIntoUse : List Installed → List Installed → Type 0
ComeIntoUse ring [] = Unit {0}
ComeIntoUse ring (k ∷ ks) = AllByRecursion (λ r. AreApart r.master k.master) ring × IsApartInItself k.master × ComeIntoUse (ring ++ k ∷ []) ks

-- the key isn't apart from that of this number among these, and is so from all before; or it would have the number, is apart from
-- all, and isn't so in itself
abbrev pub IsReusedAt : List Installed → Master → ℕ → Type 0
IsReusedAt keys key number =
    ((before behind : List Installed) × (r : Installed) × (keys ≡ before ++ r ∷ behind) × (number ≡ length before) × AllByRecursion (λ x. AreApart x.master key) before × (¬ AreApart r.master key))
    ⊎ ((number ≡ length keys) × AllByRecursion (λ x. AreApart x.master key) keys × (¬ IsApartInItself key))

-- so of one of the keys that the answer brings, behind the ring and those before it, which came into use: it has 64 keys at most
pub record IsReused (ring : List Installed) (Brings : List Master → Type 0) (number : ℕ) : Type 0 where
  pub new : List Installed
  pub key : Master
  pub later : List Master
  pub brings : Brings (map (λ k. k.master) new ++ key ∷ later)
  pub few : length new + 1 + length later ≤ 64
  pub come : ComeIntoUse ring new
  pub reused : IsReusedAt (ring ++ new) key number

-- all come into use, and are too many
abbrev pub IsFull : List Installed → (List Master → Type 0) → Type 0
IsFull ring Brings = (new : List Installed) × Brings (map (λ k. k.master) new) × (length new ≤ 64) × ComeIntoUse ring new × (65536 < length ring + length new)

-- a session of the key's owner is under it
abbrev pub HasUser : List Call → Installed → Type 0
HasUser calls k = Any (λ c. Any (λ s. (s.name.owner ≡ k.owner) × Any (λ x. x.master ≡ k.master) s.keys) c.sessions) calls

-- what comes into the ring has such a session
abbrev pub KeysComeWithUsers : Turn → Type 0
KeysComeWithUsers t = (new : List Installed) × ((after_turn t).books.ring ≡ t.before.books.ring ++ new) × AllByRecursion (HasUser (after_turn t).calls) new

-- ---- the cause

-- The first of these that holds, and no other: it is no description, or lacks an address; no medium takes part; there aren't as many
-- as were offered; a medium that stays names no line, the first such; or the response isn't there, isn't read, is of another kind, or
-- isn't one to the message; then the ring. Never by `Cs`: the crypto sessions and the policy of the gateway's own message serve
-- (RFC 3830, 6.1.1 and 6.10.1).
abbrev pub Shows : List Installed → (List Master → Type 0) → Offer → List ℕ → Refusal → Type 0
Shows ring Brings o text (causes.Sdp line fault) = ShowsFault (other_side o.side) text line fault
Shows ring Brings o text causes.NoMedia = (s : Sdp) × (description_of text ≡ Ok s) × AllByRecursion (λ m. ¬ TakesPart (other_side o.side) m) s.media
Shows ring Brings o text causes.MediaCount = (s : Sdp) × Describes (other_side o.side) text s × (¬ length s.media ≡ length o.description.media)
Shows ring Brings o text (causes.Sdes medium fault) =
    (s : Sdp) × FitsOffer o text s × ((lines : List (Option (List CryptoLine))) × (o.keying ≡ OwnLines lines) × LacksLine o.side 0 o.description.media lines s.media medium fault)
Shows ring Brings o text (causes.KeyMgmt medium) = LacksMessage o text medium
Shows ring Brings o text (causes.Mikey medium offset fault) = ShowsNoMessage o text medium offset fault
Shows ring Brings o text (causes.Psk medium fault) = ShowsNoResponse o text medium fault
Shows ring Brings o text (causes.KeyReused number) = IsKeyed o text × IsReused ring Brings number
Shows ring Brings o text causes.RingFull = IsKeyed o text × IsFull ring Brings
Shows ring Brings o text other = ⊥

-- that one cause is told, and nothing else
abbrev pub RefusedAnswerShowsCause : List Turn → Turn → Type 0
RefusedAnswerShowsCause earlier t =
    (id : CallId) (noise text : List ℕ) (c : Call) (o : Offer) → t.event ≡ Signalled (Answered id noise text)
    → call_of t.before id ≡ Some c → c.offer ≡ Some o → IsRefused t
    → (cause : Refusal) × (t.outcomes ≡ Refused (Some id) cause ∷ []) × Shows t.before.books.ring (AreBrought earlier c.slot id o noise text) o text cause

-- So in a run. And the gateway makes no cause by itself: no packet, pre-shared key or manual line closes an open offer, no key comes
-- into the ring without a session under it, and none is noted but the messages of offers that are open then. Ticks alone move the
-- moment, `psk` lines alone change the pre-shared keys, manual lines alone mark calls, and the marks stay; and each call has a
-- generation or an open offer. The sessions of an answer that is taken are by the first crypto line of the peer's that is read.
pub record RefusedAnswersShowCauses (events : List Event) : Type 0 where
  pub shown : (earlier later : List Turn) (t : Turn) → turns events ≡ earlier ++ t ∷ later → RefusedAnswerShowsCause earlier t
  pub stay : All OpenOffersStay (turns events)
  pub used : All KeysComeWithUsers (turns events)
  pub noted : All NotesComeWithOffers (turns events)
  pub moment : All MomentStays (turns events)
  pub pairs : All PairsStay (turns events)
  pub held : All PskIsHeld (turns events)
  pub marks : All MarksStay (turns events)
  pub rejected : All RejectedFirstEnds (turns events)
  pub begun : AllByRecursion HasBegun (world_after empty events).calls
  pub firsts : (earlier later : List Turn) (t : Turn) → turns events ≡ earlier ++ t ∷ later → AnswerIsByFirst earlier t
