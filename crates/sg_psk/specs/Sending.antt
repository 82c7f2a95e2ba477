-- The messages that the gateway sends, and reading a response as the initiator (RFC 3830, 3.1, 5.1 to 5.3).
use Rattle.std.specs.Prelude.{ℕ, List, [], ◌∷◌, ◌++◌, length, take, drop, replicate, Bool, true, false, not, Option, Some, None, Result, Ok, Err, ◌==◌, ◌&&◌, if◌then◌else◌}
use Rattle.sg_base.specs.Octets.{number_of, same_octets}
use Rattle.sg_base.specs.declared.faults.PskFault.{PskFault}
use Rattle.sg_base.specs.declared.faults.PskFault.TheVariants.{IdUnknown, BadMac, Algorithm, OtherSession}
use Rattle.sg_mikey.specs.Spelling.{message_octets}
use Rattle.sg_mikey.specs.declared.message.CsEntry.{CsEntry}
use Rattle.sg_mikey.specs.declared.message.Message.{Message}
use Rattle.sg_mikey.specs.declared.message.Tgk.{Tgk}
use Rattle.sg_mikey.specs.declared.payload.Payload.{Payload}
use Rattle.sg_mikey.specs.declared.payload.Payload.TheVariants.{Time, Random, Id, Sp, Kemac, Verify}
use Rattle.sg_psk.specs.Policy.{own_policy}
use Rattle.sg_psk.specs.Accepting.{Accepted}
use Rattle.sg_psk.specs.Envelope.{before_mac, enciphered, mac_of, response_covers}
use Rattle.sg_psk.specs.KeyData.{key_text}
use Rattle.sg_psk.specs.Parts.{closing_in}
use Rattle.sg_psk.specs.Stamps.{stamp_of}
use Rattle.sg_psk.specs.declared.pairs.Pair.{Pair}

-- ---- the gateway as the initiator

-- what it keeps of its own message until the response
pub record Sent : Type 0 where
  pub csb : ℕ
  pub random : List ℕ
  pub stamp : List ℕ
  pub pair : Pair
  pub tgks : List Tgk
  pub map : List CsEntry

abbrev pub entry_of : ℕ → ℕ → CsEntry
entry_of policy ssrc = record { policy = policy; ssrc = ssrc; roc = 0 }

-- For each medium a crypto session of the gateway, with its own SSRC, and one of the peer, whose SSRC isn't
-- known yet (6.1.1).
unfoldable pub own_map : List ℕ → List CsEntry
own_map [] = []
own_map (ssrc ∷ ssrcs) = entry_of 0 ssrc ∷ entry_of 0 0 ∷ own_map ssrcs

abbrev pub one_key : List ℕ → List Tgk
one_key key = record { key = key; spi = None } ∷ []

abbrev pub sent : ℕ → List ℕ → List ℕ → Pair → List Tgk → List CsEntry → Sent
sent csb random stamp pair tgks map = record { csb = csb; random = random; stamp = stamp; pair = pair; tgks = tgks; map = map }

-- the noise has 16 octets of RAND, 4 of the bundle's number and 16 of the key
abbrev pub sent_of : Pair → ℕ → List ℕ → List ℕ → Sent
sent_of pair now noise ssrcs =
    sent (number_of (take 4 (drop 16 noise))) (take 16 noise) (stamp_of now) pair (one_key (take 16 (drop 20 noise))) (own_map ssrcs)

-- the octets of the one key
abbrev pub key_of : List Tgk → List ℕ
key_of [] = []
key_of (k ∷ ks) = k.key

-- T, RAND, the two names, one policy, and the octets under the cipher (3.1)
abbrev pub payloads_of : Pair → List ℕ → List ℕ → List ℕ → List ℕ → List Payload
payloads_of pair random stamp text tag =
    Time 0 stamp ∷ Random random ∷ Id 1 pair.own ∷ Id 1 pair.peer ∷ Sp own_policy ∷ Kemac 1 text 1 tag ∷ []

-- the octets of the one key under the cipher
abbrev pub covered_key : Sent → List ℕ
covered_key s = enciphered s.pair.key s.csb s.random s.stamp (key_text (key_of s.tgks))

abbrev pub initial_payloads : Sent → List ℕ → List Payload
initial_payloads s tag =
    payloads_of s.pair s.random s.stamp (covered_key s) tag

abbrev pub initial_message : Sent → List ℕ → Message
initial_message s tag = record { kind = 0; verify = true; csb = s.csb; map = s.map; payloads = initial_payloads s tag }

-- a message's octets with the MAC of those before the last twenty in their place
abbrev pub sealed : List ℕ → ℕ → List ℕ → List ℕ → List ℕ
sealed key csb random octets = before_mac octets ++ mac_of key csb random (before_mac octets)

-- the octets before the MAC, which don't depend on it
abbrev pub initial_start : Sent → List ℕ
initial_start s = before_mac (message_octets (initial_message s (replicate 20 0)))

unfoldable pub initial_octets : Sent → List ℕ
initial_octets s = sealed s.pair.key s.csb s.random (message_octets (initial_message s (replicate 20 0)))

-- what is sent to a peer, where there is a pair with it
abbrev pub sent_under : ℕ → List ℕ → List ℕ → Option Pair → Result Sent PskFault
sent_under now noise ssrcs None = Err IdUnknown
sent_under now noise ssrcs (Some pair) = Ok (sent_of pair now noise ssrcs)

-- the MAC of a response is that of all before it, the two names and the stamp
unfoldable pub response_fits : List ℕ → Message → Sent → Bool
response_fits octets m s =
    same_octets (closing_in m.payloads).tag
    (mac_of s.pair.key s.csb s.random (response_covers (before_mac octets) s.pair.own s.pair.peer s.stamp))

-- the first cause why a response isn't accepted, or its map
unfoldable pub response_of : List ℕ → Message → Sent → Result (List CsEntry) PskFault
response_of octets m s =
    if not ((closing_in m.payloads).mac == 1) then Err Algorithm
    else if not (response_fits octets m s) then Err BadMac
    else if not ((m.csb == s.csb) && (length m.map == length s.map)) then Err OtherSession
    else Ok m.map

-- ---- the gateway as the responder

-- the initiator's entry is repeated, and the responder's has the gateway's own SSRC (6.1.1)
unfoldable pub answered_map : List CsEntry → List ℕ → List CsEntry
answered_map [] ssrcs = []
answered_map (i ∷ []) ssrcs = []
answered_map (i ∷ r ∷ map) [] = []
answered_map (i ∷ r ∷ map) (ssrc ∷ ssrcs) = i ∷ entry_of r.policy ssrc ∷ answered_map map ssrcs

-- the initiator's stamp, the gateway's own name, and the MAC (3.1)
abbrev pub response_message : Accepted → List ℕ → List ℕ → Message
response_message a ssrcs tag = record {
  kind = 1;
  verify = false;
  csb = a.csb;
  map = answered_map a.map ssrcs;
  payloads = Time 0 a.stamp ∷ Id 1 a.pair.own ∷ Verify 1 tag ∷ [];
}

-- the same of a response, whose MAC covers the two names and the stamp too
abbrev pub sealed_response : Pair → ℕ → List ℕ → List ℕ → List ℕ → List ℕ
sealed_response pair csb random stamp octets =
    before_mac octets ++ mac_of pair.key csb random (response_covers (before_mac octets) pair.peer pair.own stamp)

abbrev pub response_start : Accepted → List ℕ → List ℕ
response_start a ssrcs = before_mac (message_octets (response_message a ssrcs (replicate 20 0)))

unfoldable pub response_octets : Accepted → List ℕ → List ℕ
response_octets a ssrcs =
    sealed_response a.pair a.csb a.random a.stamp (message_octets (response_message a ssrcs (replicate 20 0)))
