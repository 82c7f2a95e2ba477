-- What is agreed by the gateway's own MIKEY message: it always encrypts, and the peer's response is authentic (RFC 3830, 3.1,
-- 5.2 and 6.1.1).
use Rattle.std.specs.Prelude.{◌≡◌, ℕ, ◌+◌, ◌*◌, List, ◌++◌, length, map, true, Option, Some, Ok, codes}
use Rattle.std.specs.List.{AllByRecursion, Any}
use Rattle.base64.specs.Engines.{standard}
use Rattle.base64.specs.GeneralPurpose.{encode_of}
use Rattle.sg_base.specs.declared.suites.Suite.TheVariants.{Cm128Tag80}
use Rattle.sg_csmap.specs.CryptoSessions.{master_in}
use Rattle.sg_hmac.specs.Hmac.{hmac_sha1}
use Rattle.sg_hmac.specs.Labels.{authentication_key}
use Rattle.sg_mikey.specs.Reading.{message_of}
use Rattle.sg_mikey.specs.declared.message.Message.{Message}
use Rattle.sg_psk.specs.Envelope.{before_mac}
use Rattle.sg_psk.specs.Parts.{closing_in}
use Rattle.sg_psk.specs.Sending.{Sent, initial_octets}
use Rattle.sg_sdp.specs.Descriptions.{spelling}
use Rattle.sg_sdp.specs.declared.sdp.Sdp.{Sdp}
use Rattle.sg_agreement.specs.Attributes.{mikey_octets, mikey_value}
use Rattle.sg_agreement.specs.Media.{Medium, Stream}

-- the text carries the message in its session part (RFC 4567, 3.1)
abbrev pub TellsMessage : List ℕ → Sent → Type 0
TellsMessage text sent = (told : Sdp) × (text ≡ spelling told) × Any (λ line. line ≡ codes "a=key-mgmt:mikey " ++ encode_of standard (initial_octets sent)) told.session

-- The first MIKEY attribute of these lines carries a response to the message: of its bundle and as many crypto sessions. Its MAC
-- is the code under the pair's key of all before it, the two names and the message's stamp.
pub record IsResponseTo (sent : Sent) (lines : List (List ℕ)) : Type 0 where
  pub octets : List ℕ
  pub carried : mikey_octets (mikey_value lines) ≡ Some octets
  pub message : Message
  pub read : message_of octets ≡ Ok message
  pub kind : message.kind ≡ 1
  pub csb : message.csb ≡ sent.csb
  pub as_many : length message.map ≡ length sent.map
  pub code : (closing_in message.payloads).tag
      ≡ hmac_sha1 (authentication_key sent.pair.key sent.csb sent.random) (before_mac octets ++ (sent.pair.own ++ (sent.pair.peer ++ sent.stamp)))

-- the keys of a crypto session of the message, of AES with 128 bits
abbrev pub IsInSession : Sent → ℕ → Stream → Type 0
IsInSession sent session s =
    map (λ k. k.master) s.keys ≡ map (λ k. master_in sent.csb sent.random session Cm128Tag80 k.key) sent.tgks

-- Crypto sessions have numbers from 1 on: the gateway sends in one of an odd number, the peer in the next, and both encrypt.
pub record IsByOwnMessage (sent : Sent) (x : Medium) : Type 0 where
  pub number : ℕ
  pub seals : IsInSession sent (2 * number + 1) x.to_peer
  pub opens : IsInSession sent (2 * number + 2) x.from_peer
  pub seals_rtp : x.to_peer.encrypts_rtp ≡ true
  pub seals_rtcp : x.to_peer.encrypts_rtcp ≡ true
  pub opens_rtp : x.from_peer.encrypts_rtp ≡ true
  pub opens_rtcp : x.from_peer.encrypts_rtcp ≡ true

-- each medium that is agreed
abbrev pub AreByOwnMessage : Sent → List (Option Medium) → Type 0
AreByOwnMessage sent media = AllByRecursion (λ (x : Option Medium). (y : Medium) → x ≡ Some y → IsByOwnMessage sent y) media

-- The text for the peer carries the message, its answer responds, and the media that are agreed are by that message.
pub record AreByMessageOf (text : List ℕ) (answer : Sdp) (media : List (Option Medium)) : Type 0 where
  pub sent : Sent
  pub tells : TellsMessage text sent
  pub responds : IsResponseTo sent answer.session
  pub agreed : AreByOwnMessage sent media
