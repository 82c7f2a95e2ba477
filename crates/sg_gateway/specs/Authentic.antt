-- A MIKEY message of an offer is accepted where it is authentic, of the time and new (RFC 3830, 5.2 to 5.4); and it is
-- noted, so that none is accepted twice.
use Rattle.std.specs.Prelude.{◌≡◌, ◌⊎◌, ℕ, ◌+◌, ◌*◌, ◌/◌, ◌^◌, ◌≤◌, List, [], ◌∷◌, ◌++◌, take, drop, Option, Some, None, Ok}
use Rattle.std.specs.List.{All, AllByRecursion, Any}
use Rattle.sg_agreement.specs.Attributes.{mikey_octets, mikey_value}
use Rattle.sg_agreement.specs.Keying.{Keying, PeerLines, OwnLines, PeerMessage, PeerMessages, OwnMessage, Offer}
use Rattle.sg_agreement.specs.Messages.{Bundle}
use Rattle.sg_agreement.specs.declared.ways.Way.{Way}
use Rattle.sg_base.specs.Octets.{number_of}
use Rattle.sg_base.specs.declared.addresses.CallId.{CallId}
use Rattle.sg_hmac.specs.Hmac.{hmac_sha1}
use Rattle.sg_hmac.specs.Labels.{authentication_key}
use Rattle.sg_mikey.specs.Reading.{message_of}
use Rattle.sg_mikey.specs.declared.message.Message.{Message}
use Rattle.sg_psk.specs.Accepting.{Accepted}
use Rattle.sg_psk.specs.Envelope.{before_mac}
use Rattle.sg_psk.specs.Parts.{closing_in, names_in, random_in, stamp_in}
use Rattle.sg_psk.specs.declared.pairs.Pair.{Pair}
use Rattle.sg_psk.specs.declared.replays.Noted.{Noted}
use Rattle.sg_sdp.specs.declared.medium.Medium as descriptions
use Rattle.sg_sdp.specs.declared.sdp.Sdp.{Sdp}
use Rattle.sg_gateway.specs.Refusing.{IsRefused}
use Rattle.sg_gateway.specs.Runs.{Turn, turns, after_turn}
use Rattle.sg_gateway.specs.Signals.{Offered}
use Rattle.sg_gateway.specs.Step.{Event, Signalled}
use Rattle.sg_gateway.specs.World.{Books, Call, call_of}

-- the first name is the peer's, and the second, where there is one, the pair's own
abbrev pub AreNamesOf : Pair → List (List ℕ) → Type 0
AreNamesOf pair names = (names ≡ pair.peer ∷ []) ⊎ ((more : List (List ℕ)) × (names ≡ pair.peer ∷ pair.own ∷ more))

-- the milliseconds since 1900 of a stamp, rounded down: four octets of seconds, and four of their fraction (6.6; RFC 1305, 3.1)
abbrev pub milliseconds_of : List ℕ → ℕ
milliseconds_of stamp = number_of (take 4 stamp) * 1000 + number_of (drop 4 stamp) * 1000 / 2 ^ 32

-- It is at most five minutes behind the moment, and at most five ahead of it (5.4). The moment counts from 1970.
abbrev pub IsTimely : ℕ → List ℕ → Type 0
IsTimely now stamp =
    (now + 2208988800000 ≤ milliseconds_of stamp + 300000) × (milliseconds_of stamp ≤ now + 2208988800000 + 300000)

-- the message of these numbers is noted
abbrev pub IsNoteOf : Accepted → Noted → Type 0
IsNoteOf a n = (n.peer ≡ a.pair.peer) × (n.csb ≡ a.csb) × (n.stamp ≡ a.stamp)

-- These lines' first MIKEY attribute carries a message of this bundle and stamp, of whose two ends a key is held; its MAC
-- is the code of all before it under that key, the stamp is timely, and it isn't noted.
pub record IsAuthentic (books : Books) (now : ℕ) (lines : List (List ℕ)) (a : Accepted) : Type 0 where
  pub octets : List ℕ
  pub carried : mikey_octets (mikey_value lines) ≡ Some octets
  pub message : Message
  pub read : message_of octets ≡ Ok message
  pub csb : message.csb ≡ a.csb
  pub stamp : stamp_in message.payloads ≡ a.stamp
  pub held : Any (λ p. p ≡ a.pair) books.pairs
  pub names : AreNamesOf a.pair (names_in message.payloads)
  pub code : (closing_in message.payloads).tag ≡ hmac_sha1 (authentication_key a.pair.key message.csb (random_in message.payloads)) (before_mac octets)
  pub timely : IsTimely now a.stamp
  pub new : AllByRecursion (λ n. ¬ IsNoteOf a n) books.noted

-- a message of one of the media, accepted by what was at hand, and noted afterwards
abbrev pub IsBundleAcceptedOnce : Books → ℕ → List Noted → List descriptions.Medium → Option Bundle → Type 0
IsBundleAcceptedOnce books now after media None = Unit {0}
IsBundleAcceptedOnce books now after media (Some b) = Any (λ m. IsAuthentic books now m.lines b.initial) media × Any (IsNoteOf b.initial) after

-- each message that the peer's offer is keyed by: that of its session part, or those of its media
abbrev pub AreAcceptedOnce : Books → ℕ → List Noted → Sdp → Keying → Type 0
AreAcceptedOnce books now after s (PeerMessage b) = IsAuthentic books now s.session b.initial × Any (IsNoteOf b.initial) after
AreAcceptedOnce books now after s (PeerMessages bs) = AllByRecursion (IsBundleAcceptedOnce books now after s.media) bs
AreAcceptedOnce books now after s (PeerLines lines) = Unit {0}
AreAcceptedOnce books now after s (OwnLines lines) = Unit {0}
AreAcceptedOnce books now after s (OwnMessage sent) = Unit {0}

abbrev pub OfferIsAuthentic : Turn → Type 0
OfferIsAuthentic t =
    (id : CallId) (way : Way) (noise text : List ℕ) → t.event ≡ Signalled (Offered id way noise text) → ¬ IsRefused t
    → (c : Call) × (o : Offer) × (call_of (after_turn t) id ≡ Some c) × (c.offer ≡ Some o) × AreAcceptedOnce t.before.books t.before.moment (after_turn t).books.noted o.description o.keying

-- what is noted stays noted
abbrev pub NotesStay : Turn → Type 0
NotesStay t = (new : List Noted) × ((after_turn t).books.noted ≡ t.before.books.noted ++ new)

abbrev pub MessagesAreAcceptedOnce : List Event → Type 0
MessagesAreAcceptedOnce events = All (λ t. OfferIsAuthentic t × NotesStay t) (turns events)
