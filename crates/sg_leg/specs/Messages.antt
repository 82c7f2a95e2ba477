-- Faults of messages, as refusals that name the medium, or 255 for the session part.
use Rattle.std.specs.Prelude.{◌≡◌, ◌≤◌, ℕ, List, length, not, ◌==◌, if◌then◌else◌, Result, Ok, Err}
use Rattle.sg_agreement.specs.Messages.{AtHand}
use Rattle.sg_base.specs.declared.faults.Fault.{Fault}
use Rattle.sg_base.specs.declared.faults.Fault.TheVariants.{Refused, NoMemory}
use Rattle.sg_base.specs.declared.faults.MikeyFault.TheVariants.{DataType}
use Rattle.sg_agreement.specs.Refusals.{of_message}
use Rattle.sg_base.specs.declared.faults.Refusal.{Refusal}
use Rattle.sg_base.specs.declared.faults.Refusal.TheVariants as refusals
use Rattle.sg_mikey.specs.Reading.{message_of}
use Rattle.sg_session.specs.Stages.{after_ok, stop_if}
use Rattle.sg_csmap.specs.declared.faults.CsError.{CsError}
use Rattle.sg_csmap.specs.declared.sessions.StreamKeys.{StreamKeys}
use Rattle.sg_csmap.specs.declared.faults.CsError.TheVariants as cs
use Rattle.sg_mikey.specs.declared.faults.ReadMikeyFault.{ReadMikeyFault}
use Rattle.sg_mikey.specs.declared.faults.ReadMikeyFault.TheVariants as mikey
use Rattle.sg_mikey.specs.declared.message.Message.{Message}
use Rattle.sg_psk.specs.declared.faults.PskError.{PskError}
use Rattle.sg_psk.specs.declared.faults.PskError.TheVariants as psk
use Rattle.sg_psk.specs.declared.pairs.Pair.{Pair}
use Rattle.sg_psk.specs.declared.replays.Noted.{Noted}

abbrev pub message_fault : ℕ → ReadMikeyFault → Fault
message_fault medium (mikey.Mikey offset fault) = Refused (refusals.Mikey medium offset fault)
message_fault medium mikey.NoMemory = NoMemory

abbrev pub psk_fault : ℕ → PskError → Fault
psk_fault medium (psk.Psk fault) = Refused (refusals.Psk medium fault)
psk_fault medium psk.NoMemory = NoMemory

abbrev pub cs_fault : ℕ → CsError → Fault
cs_fault medium (cs.Cs fault) = Refused (refusals.Cs medium fault)
cs_fault medium cs.NoMemory = NoMemory

-- a message of the other kind is refused
abbrev pub of_kind : ℕ → ℕ → Message → Result Message Fault
of_kind medium kind m = if not (m.kind == kind) then Err (Refused (refusals.Mikey medium 1 DataType)) else Ok m

-- the octets with the message that they spell
unfoldable pub read_of : ℕ → ℕ → List ℕ → Result (List ℕ × Message) Refusal
read_of medium kind octets =
    after_ok (of_message medium (message_of octets)) (λ m.
    stop_if (not (m.kind == kind)) (refusals.Mikey medium 1 DataType)
    (Ok (octets, m)))

-- what is at hand has this moment and these books
pub record IsAtHand (h : AtHand) (now : ℕ) (pairs : List Pair) (noted : List Noted) : Type 0 where
  pub now_is : h.now ≡ now
  pub pairs_are : h.pairs ≡ pairs
  pub noted_are : h.noted ≡ noted

-- few keys in both directions
abbrev pub HasFewKeys : StreamKeys × StreamKeys → Type 0
HasFewKeys p = (length p.0.keys ≤ 8) × (length p.1.keys ≤ 8)
