-- The sessions that the peer's own MIKEY message keys: under the keys that the message carries, in the crypto sessions of
-- their medium, as the message and the response that the peer is told say (RFC 3830, 3.1, 5.2 and 6.1.1; RFC 4567, 3.1).
use Rattle.std.specs.Prelude.{◌≡◌, ◌⊎◌, ℕ, List, [], ◌∷◌, Some, Ok}
use Rattle.std.specs.List.{AllByRecursion, Any}
use Rattle.sg_agreement.specs.TextLines.{IsMessageLine}
use Rattle.sg_base.specs.declared.addresses.Side.TheVariants.{Secure}
use Rattle.sg_hmac.specs.Hmac.{hmac_sha1}
use Rattle.sg_hmac.specs.Labels.{authentication_key}
use Rattle.sg_mikey.specs.Reading.{message_of}
use Rattle.sg_mikey.specs.Spelling.{message_octets}
use Rattle.sg_mikey.specs.declared.message.Message.{Message}
use Rattle.sg_mikey.specs.declared.message.Tgk.{Tgk}
use Rattle.sg_psk.specs.Envelope.{before_mac, enciphered}
use Rattle.sg_psk.specs.KeyData.{tgks_of}
use Rattle.sg_psk.specs.Parts.{closing_in, names_in, random_in, stamp_in}
use Rattle.sg_psk.specs.declared.pairs.Pair.{Pair}
use Rattle.sg_sdp.specs.declared.medium.Medium as descriptions
use Rattle.sg_sdp.specs.declared.sdp.Sdp.{Sdp}
use Rattle.sg_session.specs.Session.{Session}
use Rattle.sg_session.specs.declared.names.Direction.TheVariants.{Opening}
use Rattle.sg_gateway.specs.Addressed.{IsMediumAt}
use Rattle.sg_gateway.specs.Authentic.{AreNamesOf}
use Rattle.sg_gateway.specs.CryptoSessions.{Carries, Tells, IsResponse, IsInCryptoSession, session_of, others_before}

-- ---- the messages

-- A message of an initiator that these lines carry, from one of whom a key is held, under which its MAC is the code of all
-- before it; and the keys that it has under its cipher, which that key opens.
pub record PeersMessage (pairs : List Pair) (lines : List (List ℕ)) : Type 0 where
  pub octets : List ℕ
  pub carried : Carries lines octets
  pub message : Message
  pub read : message_of octets ≡ Ok message
  pub kind : message.kind ≡ 0
  pub pair : Pair
  pub held : Any (λ p. p ≡ pair) pairs
  pub names : AreNamesOf pair (names_in message.payloads)
  pub code : (closing_in message.payloads).tag ≡ hmac_sha1 (authentication_key pair.key message.csb (random_in message.payloads)) (before_mac octets)
  pub tgks : List Tgk
  pub keys : tgks_of (enciphered pair.key message.csb (random_in message.payloads) (stamp_in message.payloads) (closing_in message.payloads).octets) ≡ Some tgks

-- The gateway's response to it, which these lines tell: with the initiator's stamp and the gateway's own name.
pub record OwnResponse (initial : Message) (pair : Pair) (lines : List (List ℕ)) : Type 0 where
  pub octets : List ℕ
  pub told : Tells lines octets
  pub response : Message
  pub spelled : octets ≡ message_octets response
  pub answers : IsResponse initial pair.key pair.peer pair.own octets response
  pub stamp : stamp_in response.payloads ≡ stamp_in initial.payloads
  pub names : names_in response.payloads ≡ pair.own ∷ []

-- ---- of an offer

-- The peer is the initiator. Its sessions are in the crypto sessions of its message and of the gateway's response, which the
-- answer is told with; the plain side's medium is that of the answer.
abbrev pub IsInPeersSession : {pairs : List Pair} {lines told : List (List ℕ)} → (m : PeersMessage pairs lines) → OwnResponse m.message m.pair told → ℕ → descriptions.Medium → Session → Type 0
IsInPeersSession m r others plain s =
    IsInCryptoSession m.message m.tgks m.message.map r.response.map (session_of Opening s.name.owner.direction others) plain s

-- a message of the session part holds for all active media, in their order, and the response stands in the session part
abbrev pub IsKeyedByPart : List Pair → Sdp → Sdp → descriptions.Medium → Session → Type 0
IsKeyedByPart pairs offer told answered s =
    (m : PeersMessage pairs offer.session) × (r : OwnResponse m.message m.pair told.session)
    × IsInPeersSession m r (others_before Secure offer.media s.name.owner.medium) answered s

-- Where there is none, each medium's own message holds for it, and the response stands in that medium of what is told.
abbrev pub IsKeyedByOwn : List Pair → Sdp → Sdp → descriptions.Medium → descriptions.Medium → Session → Type 0
IsKeyedByOwn pairs offer told offered answered s =
    AllByRecursion (λ line. ¬ IsMessageLine line) offer.session
    × (for_peer : descriptions.Medium) × IsMediumAt told.media s.name.owner.medium for_peer
    × (m : PeersMessage pairs offered.lines) × (r : OwnResponse m.message m.pair for_peer.lines) × IsInPeersSession m r 0 answered s

-- by its own medium in the peer's offer, in the answer and in what the peer is told of the answer
pub record IsByPeersMessage (pairs : List Pair) (offer answer told : Sdp) (s : Session) : Type 0 where
  pub offered : descriptions.Medium
  pub answered : descriptions.Medium
  pub in_offer : IsMediumAt offer.media s.name.owner.medium offered
  pub in_answer : IsMediumAt answer.media s.name.owner.medium answered
  pub keyed : IsKeyedByPart pairs offer told answered s ⊎ IsKeyedByOwn pairs offer told offered answered s
