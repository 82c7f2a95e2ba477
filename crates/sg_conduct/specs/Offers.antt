-- An offer is open where nothing speaks against it: neither its text (RFC 3264, 5; RFC 4566, 5.7) nor, where it has messages,
-- what they say (RFC 3830, 5.2 to 5.4). And it is told to the other side.
use Rattle.std.specs.Prelude.{◌≡◌, ◌⊎◌, ◌<◌, ◌≤◌, ℕ, ◌*◌, false, List, [], ◌∷◌, ◌++◌, length, filter, Some, None, Ok, ◌==◌}
use Rattle.std.specs.List.{All, AllByRecursion, Any, find}
use Rattle.sg_agreement.specs.Keying.{Keying, PeerMessage, PeerMessages, Offer}
use Rattle.sg_agreement.specs.Messages.{Bundle}
use Rattle.sg_agreement.specs.Sides.{is_active, other_side, side_of}
use Rattle.sg_agreement.specs.TextLines.{HasLine, HasNoMessage, IsMessageLine}
use Rattle.sg_agreement.specs.declared.ways.Way.{Way}
use Rattle.sg_agreement.specs.declared.ways.Way.TheVariants.{FromSecure, SdesFromPlain, MikeyFromPlain}
use Rattle.sg_base.specs.Octets.{number_of}
use Rattle.sg_base.specs.declared.addresses.CallId.{CallId}
use Rattle.sg_base.specs.declared.addresses.Side.{Side}
use Rattle.sg_base.specs.declared.addresses.Side.TheVariants.{Secure}
use Rattle.sg_hmac.specs.Hmac.{hmac_sha1}
use Rattle.sg_hmac.specs.Labels.{authentication_key}
use Rattle.sg_mikey.specs.Reading.{message_of}
use Rattle.sg_mikey.specs.declared.message.CsEntry.{CsEntry}
use Rattle.sg_mikey.specs.declared.message.Message.{Message}
use Rattle.sg_mikey.specs.declared.message.Tgk.{Tgk}
use Rattle.sg_mikey.specs.declared.policy.Policy.{Policy}
use Rattle.sg_outcome.specs.declared.outcomes.Outcome.TheVariants as outcomes
use Rattle.sg_psk.specs.Envelope.{before_mac, enciphered}
use Rattle.sg_psk.specs.KeyData.{tgks_of}
use Rattle.sg_psk.specs.Parts.{closing_in, names_in, policies_in, random_in, stamp_in}
use Rattle.sg_psk.specs.declared.pairs.Pair.{Pair}
use Rattle.sg_psk.specs.declared.replays.Noted.{Noted}
use Rattle.sg_sdes.specs.declared.lines.CryptoLine.{CryptoLine}
use Rattle.sg_sdp.specs.Reading.{description_of}
use Rattle.sg_sdp.specs.declared.sdp.Sdp.{Sdp}
use Rattle.sg_gateway.specs.Authentic.{AreNamesOf, IsNoteOf, IsTimely}
use Rattle.sg_gateway.specs.CryptoSessions.{Carries}
use Rattle.sg_gateway.specs.Runs.{Turn, turns, after_turn}
use Rattle.sg_gateway.specs.Signals.{Offered, new_call}
use Rattle.sg_gateway.specs.Step.{Event, Signalled}
use Rattle.sg_gateway.specs.World.{Books, Call, World, call_of}
use Rattle.sg_conduct.specs.Present.{TakesPart}

-- ---- the text

-- it describes this; some medium takes part, and each that does has an address
pub record Describes (side : Side) (text : List ℕ) (s : Sdp) : Type 0 where
  pub read : description_of text ≡ Ok s
  pub some : Any (TakesPart side) s.media
  pub addressed : AllByRecursion (λ m. TakesPart side m → (ip : List ℕ) × (m.address ≡ Some ip)) s.media

-- ---- a message

-- of each type of a policy's items the values that are served, lengths in octets or in bits (RFC 3830, 6.10.1)
abbrev pub served : List (ℕ × List ℕ)
served =
    (0, 1 ∷ [])  -- AES in counter mode
    ∷ (1, 16 ∷ 24 ∷ 32 ∷ 128 ∷ 192 ∷ 256 ∷ [])  -- the encryption key
    ∷ (2, 1 ∷ [])  -- HMAC-SHA-1
    ∷ (3, 20 ∷ 160 ∷ [])  -- the authentication key
    ∷ (4, 14 ∷ 112 ∷ [])  -- the salt
    ∷ (5, 0 ∷ [])  -- the pseudo-random function
    ∷ (6, 0 ∷ [])  -- the derivation rate
    ∷ (7, 0 ∷ 1 ∷ [])  -- whether SRTP is encrypted
    ∷ (8, 0 ∷ 1 ∷ [])  -- and SRTCP
    ∷ (9, 0 ∷ [])  -- the order of forward error correction
    ∷ (10, 1 ∷ [])  -- SRTP has tags
    ∷ (11, 10 ∷ 4 ∷ 80 ∷ 32 ∷ [])  -- the tag
    ∷ (12, 0 ∷ [])  -- the prefix
    ∷ []

-- an item of one to four octets, which are such a value
pub record IsServed (item : ℕ × List ℕ) : Type 0 where
  pub some : 1 ≤ length item.1
  pub few : length item.1 ≤ 4
  pub value : Any (λ row. (row.0 ≡ item.0) × Any (λ v. v ≡ number_of item.1) row.1) served

-- no two of them are of one type
abbrev pub AreOfOwnTypes : List (ℕ × List ℕ) → Type 0
AreOfOwnTypes [] = Unit {0}
AreOfOwnTypes (item ∷ items) = AllByRecursion (λ x. ¬ x.0 ≡ item.0) items × AreOfOwnTypes items

-- the first of these policies that has the crypto session's number is served
pub record HasPolicy (policies : List Policy) (entry : CsEntry) : Type 0 where
  pub policy : Policy
  pub named : find (λ (p : Policy). p.number == entry.policy) policies ≡ Some policy
  pub each : AllByRecursion IsServed policy.items
  pub own : AreOfOwnTypes policy.items

-- the first of these pairs that a message's names name
pub record IsFirstNamed (pairs : List Pair) (names : List (List ℕ)) (pair : Pair) : Type 0 where
  pub before : List Pair
  pub behind : List Pair
  pub parts : pairs ≡ before ++ pair ∷ behind
  pub named : AreNamesOf pair names
  pub none : AllByRecursion (λ p. ¬ AreNamesOf p names) before

-- The first message that these lines carry can be accepted, for so many media: a key is held of its two ends, under which its MAC
-- is the code of all before it and its keys are read; it is of AES in counter mode and HMAC-SHA-1, its stamp is timely, it isn't
-- noted, and there is room to note four; it has two crypto sessions for each medium, under policies that are served.
pub record IsAcceptable (books : Books) (now : ℕ) (lines : List (List ℕ)) (media : ℕ) : Type 0 where
  pub octets : List ℕ
  pub carried : Carries lines octets
  pub message : Message
  pub read : message_of octets ≡ Ok message
  pub kind : message.kind ≡ 0
  pub pair : Pair
  pub held : IsFirstNamed books.pairs (names_in message.payloads) pair
  pub cipher : (closing_in message.payloads).cipher ≡ 1
  pub mac : (closing_in message.payloads).mac ≡ 1
  pub code : (closing_in message.payloads).tag ≡ hmac_sha1 (authentication_key pair.key message.csb (random_in message.payloads)) (before_mac octets)
  pub timely : IsTimely now (stamp_in message.payloads)
  pub new : AllByRecursion (λ (n : Noted). ¬ ((n.peer ≡ pair.peer) × (n.csb ≡ message.csb) × (n.stamp ≡ stamp_in message.payloads))) books.noted
  pub room : length books.noted ≤ 1020
  pub tgks : List Tgk
  pub keys : tgks_of (enciphered pair.key message.csb (random_in message.payloads) (stamp_in message.payloads) (closing_in message.payloads).octets) ≡ Some tgks
  pub sessions : length message.map ≡ 2 * media
  pub policies : AllByRecursion (HasPolicy (policies_in message.payloads)) message.map

-- ---- the keys

-- no line carries a message, and each medium that takes part has a crypto line (RFC 4568, 5.1)
pub record HasLines (s : Sdp) : Type 0 where
  pub none : HasNoMessage s
  pub lines : AllByRecursion (λ m. TakesPart Secure m → (l : CryptoLine) × HasLine m l) s.media

-- the session part carries none, and each medium that takes part has its own message (RFC 4567, 3.1)
pub record HasOwnMessages (books : Books) (now : ℕ) (s : Sdp) : Type 0 where
  pub none : AllByRecursion (λ line. ¬ IsMessageLine line) s.session
  pub own : AllByRecursion (λ m. TakesPart Secure m → IsAcceptable books now m.lines 1) s.media

-- The secure side keys its offer by lines, by a message for all media that are active, or by a message for each. To a peer
-- that is offered a message a key is held.
abbrev pub CanBeKeyed : Books → ℕ → Sdp → Way → Type 0
CanBeKeyed books now s FromSecure = HasLines s ⊎ (IsAcceptable books now s.session (length (filter (is_active Secure) s.media)) ⊎ HasOwnMessages books now s)
CanBeKeyed books now s SdesFromPlain = Unit {0}
CanBeKeyed books now s (MikeyFromPlain peer) = Any (λ p. p.peer ≡ peer) books.pairs

-- ---- the offer

-- the call of this id has so many generations, what is described is open, and the world's moment is the call's own
pub record IsOpen (w : World) (id : CallId) (generations : ℕ) (side : Side) (s : Sdp) : Type 0 where
  pub call : Call
  pub found : call_of w id ≡ Some call
  pub same : call.generations ≡ generations
  pub offer : Offer
  pub open_now : call.offer ≡ Some offer
  pub of_side : offer.side ≡ side
  pub of_text : offer.description ≡ s
  pub heard : call.moment ≡ w.moment

-- of a call that isn't there, where fewer than 256 are: it is told with its slot and the number of its media
abbrev pub NewOfferIsOpen : Turn → Type 0
NewOfferIsOpen t =
    (id : CallId) (way : Way) (noise text : List ℕ) (s : Sdp) → t.event ≡ Signalled (Offered id way noise text)
    → call_of t.before id ≡ None → length t.before.calls < 256 → Describes (side_of way) text s → CanBeKeyed t.before.books t.before.moment s way
    → IsOpen (after_turn t) id 0 (side_of way) s
    × ((forth : List ℕ) × (t.outcomes ≡ outcomes.Made id (new_call t.before id).slot (length s.media) ∷ (outcomes.Sdp id (other_side (side_of way)) forth ∷ [])))

-- of one that is there, isn't keyed manually and has no open offer: it describes as many media as the call has
abbrev pub LaterOfferIsOpen : Turn → Type 0
LaterOfferIsOpen t =
    (id : CallId) (way : Way) (noise text : List ℕ) (c : Call) (s : Sdp) → t.event ≡ Signalled (Offered id way noise text)
    → call_of t.before id ≡ Some c → c.manual ≡ false → c.offer ≡ None → length s.media ≡ c.media
    → Describes (side_of way) text s → CanBeKeyed t.before.books t.before.moment s way
    → IsOpen (after_turn t) id c.generations (side_of way) s × ((forth : List ℕ) × (t.outcomes ≡ outcomes.Sdp id (other_side (side_of way)) forth ∷ []))

abbrev pub OfferIsTaken : Turn → Type 0
OfferIsTaken t = NewOfferIsOpen t × LaterOfferIsOpen t

abbrev pub OffersAreTaken : List Event → Type 0
OffersAreTaken events = All OfferIsTaken (turns events)

-- ---- the book

-- an offer is keyed by the message of this note
abbrev pub IsOfMessage : Keying → Noted → Type 0
IsOfMessage (PeerMessage b) n = IsNoteOf b.initial n
IsOfMessage (PeerMessages bs) n = Any (λ x. (b : Bundle) × (x ≡ Some b) × IsNoteOf b.initial n) bs
IsOfMessage other n = ⊥

-- so an open one
abbrev pub HasNoted : List Call → Noted → Type 0
HasNoted calls n = Any (λ c. (o : Offer) × (c.offer ≡ Some o) × IsOfMessage o.keying n) calls

-- they come behind a book that hasn't them
abbrev pub AreNew : List Noted → List Noted → Type 0
AreNew book [] = Unit {0}
AreNew book (n ∷ ns) = AllByRecursion (λ x. ¬ x ≡ n) book × AreNew (book ++ n ∷ []) ns

-- what is noted is so for an offer that is open then, once
abbrev pub NotesComeWithOffers : Turn → Type 0
NotesComeWithOffers t =
    (new : List Noted) × ((after_turn t).books.noted ≡ t.before.books.noted ++ new) × AreNew t.before.books.noted new × AllByRecursion (HasNoted (after_turn t).calls) new
