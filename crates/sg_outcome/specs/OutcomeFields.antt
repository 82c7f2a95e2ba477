-- The fields of outcome lines, and which outcomes have a line.
use Rattle.std.specs.Prelude.{ℕ, ◌<◌, ◌≤◌, ◌^◌, ℤ, pos, negsuc, List, [], ◌∷◌, Option, Some, None, decimal, codes}
use Rattle.std.specs.Fmt.{signed_decimal}
use Rattle.hex.specs.Hex.{IsBytes}
use Rattle.sg_base.specs.Fields.{address_text, IsAddress}
use Rattle.sg_base.specs.declared.CallId.{CallId}
use Rattle.sg_base.specs.declared.DropCause.{DropCause}
use Rattle.sg_base.specs.declared.DropCause.TheVariants as drops
use Rattle.sg_base.specs.declared.PskFault.{PskFault}
use Rattle.sg_base.specs.declared.PskFault.TheVariants as psk
use Rattle.sg_base.specs.declared.Refusal.{Refusal}
use Rattle.sg_base.specs.declared.Refusal.TheVariants as refusals
use Rattle.sg_lines.specs.LineText.{hex_text}
use Rattle.sg_outcome.specs.declared.outcomes.Outcome.{Outcome}
use Rattle.sg_outcome.specs.declared.outcomes.Outcome.TheVariants.{Made, Live, Sdp, Refused, Ended, Out, Dropped, Unsent}
use Rattle.sg_outcome.specs.OutcomeText.{side_name, why_name, drop_cause_name, sdp_fault_name, sdes_fault_name, mikey_fault_name, cs_fault_name, call_text}

abbrev pub drop_cause_fields : DropCause → List (List ℕ)
drop_cause_fields (drops.KeySpent number count) = codes "KeySpent" ∷ decimal number ∷ decimal count ∷ []
drop_cause_fields cause = drop_cause_name cause ∷ []

abbrev pub psk_fault_name : PskFault → List ℕ
psk_fault_name psk.IdUnknown = codes "IdUnknown"
psk_fault_name psk.BadMac = codes "BadMac"
psk_fault_name (psk.Skew stamp now) = codes "Skew"
psk_fault_name psk.Repeated = codes "Repeated"
psk_fault_name psk.Algorithm = codes "Algorithm"
psk_fault_name psk.KeyType = codes "KeyType"
psk_fault_name psk.CacheFull = codes "CacheFull"
psk_fault_name psk.OtherSession = codes "OtherSession"

abbrev pub psk_fault_fields : PskFault → List (List ℕ)
psk_fault_fields (psk.Skew stamp now) = codes "Skew" ∷ signed_decimal stamp ∷ decimal now ∷ []
psk_fault_fields fault = psk_fault_name fault ∷ []

abbrev pub refusal_name : Refusal → List ℕ
refusal_name (refusals.Sdp line fault) = codes "Sdp"
refusal_name (refusals.Sdes medium fault) = codes "Sdes"
refusal_name (refusals.Mikey medium offset fault) = codes "Mikey"
refusal_name (refusals.Psk medium fault) = codes "Psk"
refusal_name (refusals.Cs medium fault) = codes "Cs"
refusal_name (refusals.KeyMgmt medium) = codes "KeyMgmt"
refusal_name (refusals.KeyReused number) = codes "KeyReused"
refusal_name refusals.RingFull = codes "RingFull"
refusal_name refusals.NoMedia = codes "NoMedia"
refusal_name refusals.MediaCount = codes "MediaCount"
refusal_name refusals.TableFull = codes "TableFull"
refusal_name refusals.CallKnown = codes "CallKnown"
refusal_name refusals.CallUnknown = codes "CallUnknown"
refusal_name refusals.PskKnown = codes "PskKnown"
refusal_name refusals.PskFull = codes "PskFull"
refusal_name (refusals.TickBack last) = codes "TickBack"
refusal_name refusals.State = codes "State"

-- its name, its numbers, and the fault within
abbrev pub refusal_fields : Refusal → List (List ℕ)
refusal_fields (refusals.Sdp line fault) = codes "Sdp" ∷ decimal line ∷ sdp_fault_name fault ∷ []
refusal_fields (refusals.Sdes medium fault) = codes "Sdes" ∷ decimal medium ∷ sdes_fault_name fault ∷ []
refusal_fields (refusals.Mikey medium offset fault) = codes "Mikey" ∷ decimal medium ∷ decimal offset ∷ mikey_fault_name fault ∷ []
refusal_fields (refusals.Psk medium fault) = codes "Psk" ∷ decimal medium ∷ psk_fault_fields fault
refusal_fields (refusals.Cs medium fault) = codes "Cs" ∷ decimal medium ∷ cs_fault_name fault ∷ []
refusal_fields (refusals.KeyMgmt medium) = codes "KeyMgmt" ∷ decimal medium ∷ []
refusal_fields (refusals.KeyReused number) = codes "KeyReused" ∷ decimal number ∷ []
refusal_fields (refusals.TickBack last) = codes "TickBack" ∷ decimal last ∷ []
refusal_fields refusal = refusal_name refusal ∷ []

abbrev pub outcome_fields : Outcome → List (List ℕ)
outcome_fields (Made call slot media) = codes "made" ∷ decimal call.0 ∷ decimal slot ∷ decimal media ∷ []
outcome_fields (Live call) = codes "live" ∷ decimal call.0 ∷ []
outcome_fields (Sdp call side text) = codes "sdp" ∷ decimal call.0 ∷ side_name side ∷ hex_text text ∷ []
outcome_fields (Refused call cause) = codes "refused" ∷ call_text call ∷ refusal_fields cause
outcome_fields (Ended call slot media why) = codes "ended" ∷ decimal call.0 ∷ decimal slot ∷ decimal media ∷ why_name why ∷ []
outcome_fields (Out port to octets) = codes "out" ∷ decimal port ∷ address_text to ∷ hex_text octets ∷ []
outcome_fields (Dropped port cause) = codes "drop" ∷ decimal port ∷ drop_cause_fields cause
outcome_fields (Unsent port to) = codes "unsent" ∷ decimal port ∷ address_text to ∷ []

-- a stamp of 64 bits
abbrev pub FitsStamp : ℤ → Type 0
FitsStamp (pos n) = n < 2 ^ 63
FitsStamp (negsuc n) = n < 2 ^ 63

abbrev pub FitsDropCause : DropCause → Type 0
FitsDropCause (drops.KeySpent number count) = (number < 2 ^ 32) × (count < 2 ^ 64)
FitsDropCause other = Unit {0}

abbrev pub FitsPskFault : PskFault → Type 0
FitsPskFault (psk.Skew stamp now) = FitsStamp stamp × (now < 2 ^ 64)
FitsPskFault other = Unit {0}

abbrev pub FitsRefusal : Refusal → Type 0
FitsRefusal (refusals.Sdp line fault) = line < 2 ^ 32
FitsRefusal (refusals.Sdes medium fault) = medium ≤ 255
FitsRefusal (refusals.Mikey medium offset fault) = (medium ≤ 255) × (offset < 2 ^ 32)
FitsRefusal (refusals.Psk medium fault) = (medium ≤ 255) × FitsPskFault fault
FitsRefusal (refusals.Cs medium fault) = medium ≤ 255
FitsRefusal (refusals.KeyMgmt medium) = medium ≤ 255
FitsRefusal (refusals.KeyReused number) = number < 2 ^ 32
FitsRefusal (refusals.TickBack last) = last < 2 ^ 64
FitsRefusal other = Unit {0}

abbrev pub FitsCall : Option CallId → Type 0
FitsCall None = Unit {0}
FitsCall (Some call) = call.0 < 2 ^ 32

-- the outcomes that an `Outcome` in code may be
abbrev pub FitsOutcome : Outcome → Type 0
FitsOutcome (Made call slot media) = (call.0 < 2 ^ 32) × (slot ≤ 255) × (media ≤ 255)
FitsOutcome (Live call) = call.0 < 2 ^ 32
FitsOutcome (Sdp call side text) = (call.0 < 2 ^ 32) × IsBytes text
FitsOutcome (Refused call cause) = FitsCall call × FitsRefusal cause
FitsOutcome (Ended call slot media why) = (call.0 < 2 ^ 32) × (slot ≤ 255) × (media ≤ 255)
FitsOutcome (Out port to octets) = (port ≤ 65535) × IsAddress to × IsBytes octets
FitsOutcome (Dropped port cause) = (port ≤ 65535) × FitsDropCause cause
FitsOutcome (Unsent port to) = (port ≤ 65535) × IsAddress to
