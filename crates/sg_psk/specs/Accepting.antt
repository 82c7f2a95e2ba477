-- Reading the initiator's message as the responder (RFC 3830, 3.1 and 5.2 to 5.4): the first cause why it
-- isn't accepted, or what it carries.
use Rattle.std.specs.Prelude.{ℕ, List, Bool, Option, Some, None, not, nat_lt, length, Result, Ok, Err, ◌==◌, ◌&&◌, if◌then◌else◌}
use Rattle.sg_base.specs.Octets.{same_octets}
use Rattle.sg_base.specs.declared.faults.PskFault.{PskFault}
use Rattle.sg_base.specs.declared.faults.PskFault.TheVariants.{IdUnknown, BadMac, Skew, Repeated, Algorithm, KeyType, CacheFull}
use Rattle.sg_mikey.specs.declared.message.CsEntry.{CsEntry}
use Rattle.sg_mikey.specs.declared.message.Message.{Message}
use Rattle.sg_mikey.specs.declared.message.Tgk.{Tgk}
use Rattle.sg_mikey.specs.declared.policy.Policy.{Policy}
use Rattle.sg_psk.specs.Envelope.{before_mac, enciphered, mac_of}
use Rattle.sg_psk.specs.KeyData.{tgks_of}
use Rattle.sg_psk.specs.Pairs.{pair_named, is_noted, note}
use Rattle.sg_psk.specs.Parts.{Closing, stamp_in, random_in, names_in, policies_in, closing_in}
use Rattle.sg_psk.specs.Stamps.{moment_of, is_skewed}
use Rattle.sg_psk.specs.declared.replays.Noted.{Noted}
use Rattle.sg_psk.specs.declared.pairs.Pair.{Pair}

-- an initiator's message that was accepted, and the pair under whose key
pub record Accepted : Type 0 where
  pub csb : ℕ
  pub random : List ℕ
  pub stamp : List ℕ
  pub pair : Pair
  pub tgks : List Tgk
  pub map : List CsEntry
  pub policies : List Policy

abbrev pub accepted_with : Message → Pair → List Tgk → Accepted
accepted_with m pair tgks = record {
  csb = m.csb;
  random = random_in m.payloads;
  stamp = stamp_in m.payloads;
  pair = pair;
  tgks = tgks;
  map = m.map;
  policies = policies_in m.payloads;
}

-- how it is kept in the book
abbrev pub note_of : Accepted → Noted
note_of a = note a.pair.peer a.csb a.stamp

-- AES in counter mode and HMAC-SHA-1 (4.2.3, 4.2.4)
abbrev pub is_served : Closing → Bool
is_served c = (c.cipher == 1) && (c.mac == 1)

-- the MAC at the end is that of all before it, under the pair's key
unfoldable pub initial_fits : List ℕ → Message → Pair → Bool
initial_fits octets m pair = same_octets (closing_in m.payloads).tag (mac_of pair.key m.csb (random_in m.payloads) (before_mac octets))

-- the keys under the cipher
unfoldable pub keys_in : Message → Pair → Option (List Tgk)
keys_in m pair = tgks_of (enciphered pair.key m.csb (random_in m.payloads) (stamp_in m.payloads) (closing_in m.payloads).octets)

-- the message of these keys, where room for one of each of four media is left in the book of 1,024
unfoldable pub with_keys : Message → Pair → ℕ → Option (List Tgk) → Result Accepted PskFault
with_keys m pair kept None = Err KeyType
with_keys m pair kept (Some tgks) = if nat_lt 1020 kept then Err CacheFull else Ok (accepted_with m pair tgks)

-- the first cause why a message isn't accepted, of those that its octets show before its keys are read
unfoldable pub fault_of : List ℕ → Message → Pair → List Noted → ℕ → Option PskFault
fault_of octets m pair kept now =
    if not (is_served (closing_in m.payloads)) then Some Algorithm
    else if not (initial_fits octets m pair) then Some BadMac
    else if is_skewed (stamp_in m.payloads) now then Some (Skew (moment_of (stamp_in m.payloads)) now)
    else if is_noted kept (note pair.peer m.csb (stamp_in m.payloads)) then Some Repeated
    else None

-- a cause, or what comes where there is none
abbrev pub unless : {X : Type 0} → Option PskFault → Result X PskFault → Result X PskFault
unless (Some fault) next = Err fault
unless None next = next

-- the message under a pair's key, with these messages noted and at this moment
unfoldable pub initial_under : List ℕ → Message → List Noted → ℕ → Option Pair → Result Accepted PskFault
initial_under octets m kept now None = Err IdUnknown
initial_under octets m kept now (Some pair) = unless (fault_of octets m pair kept now) (with_keys m pair (length kept) (keys_in m pair))

-- the first cause of those that are told before any memory is taken
abbrev pub early_under : List ℕ → Message → List Noted → ℕ → Option Pair → Option PskFault
early_under octets m kept now None = Some IdUnknown
early_under octets m kept now (Some pair) = fault_of octets m pair kept now

abbrev pub early_of : List ℕ → Message → List Pair → List Noted → ℕ → Option PskFault
early_of octets m pairs kept now = early_under octets m kept now (pair_named pairs (names_in m.payloads))

-- the message that these octets spell, under the first pair that its names name
unfoldable pub initial_of : List ℕ → Message → List Pair → List Noted → ℕ → Result Accepted PskFault
initial_of octets m pairs kept now = initial_under octets m kept now (pair_named pairs (names_in m.payloads))
