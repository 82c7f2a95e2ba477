-- The octets of the gateway's own MIKEY messages: the header and the payloads that RFC 3830 has of them (3.1), in that order, and
-- no others.
use Rattle.std.specs.Prelude.{◌≡◌, ◌⊎◌, ℕ, true, false, List, [], ◌∷◌, ◌++◌, map}
use Rattle.sg_base.specs.declared.addresses.Side.TheVariants.{Secure}
use Rattle.sg_hmac.specs.Hmac.{hmac_sha1}
use Rattle.sg_hmac.specs.Labels.{authentication_key}
use Rattle.sg_mikey.specs.Spelling.{message_octets}
use Rattle.sg_mikey.specs.declared.message.CsEntry.{CsEntry}
use Rattle.sg_mikey.specs.declared.payload.Payload.TheVariants.{Time, Random, Id, Sp, Kemac, Verify}
use Rattle.sg_psk.specs.Accepting.{Accepted}
use Rattle.sg_psk.specs.Envelope.{before_mac, enciphered}
use Rattle.sg_psk.specs.Sending.{Sent}
use Rattle.sg_sdp.specs.declared.medium.Medium as descriptions
use Rattle.sg_gateway.specs.CryptoSessions.{IsFirstSource}
use Rattle.sg_gateway.specs.OwnMessages.{key_data}
use Rattle.sg_conduct.specs.Present.{TakesPart}

-- ---- as the initiator

-- each type of SRTP's policy with its default, in one octet (6.10.1)
abbrev pub default_items : List (ℕ × List ℕ)
default_items =
    (0, 1 ∷ []) ∷ (1, 16 ∷ []) ∷ (2, 1 ∷ []) ∷ (3, 20 ∷ []) ∷ (4, 14 ∷ []) ∷ (5, 0 ∷ []) ∷ (6, 0 ∷ []) ∷
    (7, 1 ∷ []) ∷ (8, 1 ∷ []) ∷ (9, 0 ∷ []) ∷ (10, 1 ∷ []) ∷ (11, 10 ∷ []) ∷ (12, 0 ∷ []) ∷ []

-- HDR, T, RAND, IDi, IDr, SP, KEMAC. V of the header asks for a response (6.1), and under the cipher is the one TGK.
pub record IsInitial (sent : Sent) (octets : List ℕ) : Type 0 where
  pub key : List ℕ
  pub alone : map (λ k. k.key) sent.tgks ≡ key ∷ []
  pub tag : List ℕ
  pub spelled : octets ≡ message_octets (record {
    kind = 0;
    verify = true;
    csb = sent.csb;
    map = sent.map;
    payloads = Time 0 sent.stamp ∷ Random sent.random ∷ Id 1 sent.pair.own ∷ Id 1 sent.pair.peer
        ∷ Sp (record { number = 0; items = default_items })
        ∷ Kemac 1 (enciphered sent.pair.key sent.csb sent.random sent.stamp (key_data key)) 1 tag ∷ [];
  })
  pub code : tag ≡ hmac_sha1 (authentication_key sent.pair.key sent.csb sent.random) (before_mac octets)

-- ---- as the responder

-- For each medium that takes part in the offer the initiator's entry again, and the gateway's: of the policy that the initiator
-- named, from the source that the answer's medium names first, and from rollover 0 on (6.1.1).
abbrev pub AreAnsweredSessions : List descriptions.Medium → List descriptions.Medium → List CsEntry → List CsEntry → Type 0
AreAnsweredSessions (m ∷ ms) (n ∷ ns) came told =
    (TakesPart Secure m × ((i r : CsEntry) × (ssrc : ℕ) × (more rest : List CsEntry) × (came ≡ i ∷ r ∷ more) × IsFirstSource n.lines ssrc
    × (told ≡ i ∷ record { policy = r.policy; ssrc = ssrc; roc = 0 } ∷ rest) × AreAnsweredSessions ms ns more rest))
    ⊎ ((¬ TakesPart Secure m) × AreAnsweredSessions ms ns came told)
AreAnsweredSessions ms ns came told = told ≡ []

-- HDR, T, IDr, V, to the message that was accepted for these media of an offer, whose answer has these. The stamp is the
-- initiator's, and the MAC covers the two names and the stamp too (5.2).
pub record IsResponse (a : Accepted) (offered answered : List descriptions.Medium) (octets : List ℕ) : Type 0 where
  pub entries : List CsEntry
  pub sessions : AreAnsweredSessions offered answered a.map entries
  pub tag : List ℕ
  pub spelled : octets ≡ message_octets (record {
    kind = 1;
    verify = false;
    csb = a.csb;
    map = entries;
    payloads = Time 0 a.stamp ∷ Id 1 a.pair.own ∷ Verify 1 tag ∷ [];
  })
  pub code : tag
      ≡ hmac_sha1 (authentication_key a.pair.key a.csb a.random) (before_mac octets ++ (a.pair.peer ++ (a.pair.own ++ a.stamp)))
