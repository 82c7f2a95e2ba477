-- The sessions that the gateway's own MIKEY message keys: under the key that the message carries, in the crypto sessions of
-- their medium, as the message that the peer is told and its response say (RFC 3830, 3.1, 5.2, 6.1.1 and 6.13).
use Rattle.std.specs.Prelude.{◌≡◌, ℕ, List, [], ◌∷◌, ◌++◌, true, length, None, Ok}
use Rattle.std.specs.List.{Any}
use Rattle.sg_base.specs.Octets.{be}
use Rattle.sg_base.specs.declared.addresses.Side.TheVariants.{Plain}
use Rattle.sg_base.specs.declared.suites.Suite.TheVariants.{Cm128Tag80}
use Rattle.sg_hmac.specs.Hmac.{hmac_sha1}
use Rattle.sg_hmac.specs.Labels.{authentication_key}
use Rattle.sg_mikey.specs.Reading.{message_of}
use Rattle.sg_mikey.specs.Spelling.{message_octets}
use Rattle.sg_mikey.specs.declared.message.Message.{Message}
use Rattle.sg_psk.specs.Envelope.{before_mac, enciphered}
use Rattle.sg_psk.specs.Parts.{closing_in, names_in, random_in, stamp_in}
use Rattle.sg_psk.specs.declared.pairs.Pair.{Pair}
use Rattle.sg_sdp.specs.declared.medium.Medium as descriptions
use Rattle.sg_sdp.specs.declared.sdp.Sdp.{Sdp}
use Rattle.sg_session.specs.Session.{Session}
use Rattle.sg_session.specs.declared.names.Direction.TheVariants.{Sealing}
use Rattle.sg_gateway.specs.Addressed.{IsMediumAt}
use Rattle.sg_gateway.specs.CryptoSessions.{Carries, Tells, IsResponse, IsInCryptoSession, session_of, others_before}

-- a key data payload of one TGK, without an SPI and without one behind it (6.13)
abbrev pub key_data : List ℕ → List ℕ
key_data key = 0 ∷ 0 ∷ (be (length key) 2 ++ key)

-- A message of the gateway's that these lines tell, under a key that is held of this peer: with the two names, its MAC the code
-- of all before it, and one TGK under its cipher.
pub record OwnMessage (pairs : List Pair) (peer : List ℕ) (lines : List (List ℕ)) : Type 0 where
  pub octets : List ℕ
  pub told : Tells lines octets
  pub message : Message
  pub spelled : octets ≡ message_octets message
  pub kind : message.kind ≡ 0
  pub pair : Pair
  pub held : Any (λ p. p ≡ pair) pairs
  pub of_peer : pair.peer ≡ peer
  pub names : names_in message.payloads ≡ pair.own ∷ pair.peer ∷ []
  pub code : (closing_in message.payloads).tag ≡ hmac_sha1 (authentication_key pair.key message.csb (random_in message.payloads)) (before_mac octets)
  pub key : List ℕ
  pub keys : (closing_in message.payloads).octets
      ≡ enciphered pair.key message.csb (random_in message.payloads) (stamp_in message.payloads) (key_data key)

-- the peer's response to it, which these lines carry
pub record PeersResponse (initial : Message) (pair : Pair) (lines : List (List ℕ)) : Type 0 where
  pub octets : List ℕ
  pub carried : Carries lines octets
  pub response : Message
  pub read : message_of octets ≡ Ok response
  pub answers : IsResponse initial pair.key pair.own pair.peer octets response
  pub as_many : length response.map ≡ length initial.map

-- The gateway is the initiator, and the plain side's medium is that of the offer: the session is in the crypto session of its
-- medium, under AES with 128 bits and tags of 80, and always encrypts.
pub record IsInOwnSession (m : Message) (key : List ℕ) (response : Message) (offer : Sdp) (s : Session) : Type 0 where
  pub offered : descriptions.Medium
  pub in_offer : IsMediumAt offer.media s.name.owner.medium offered
  pub keyed : IsInCryptoSession m (record { key = key; spi = None } ∷ []) response.map m.map
      (session_of Sealing s.name.owner.direction (others_before Plain offer.media s.name.owner.medium)) offered s
  pub suite : keyed.suite ≡ Cm128Tag80
  pub encrypts : s.encrypts ≡ true
