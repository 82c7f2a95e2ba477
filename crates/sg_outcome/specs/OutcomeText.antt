-- The one spelling of each outcome: its word, its fields behind single spaces, and a line end.
use Rattle.std.specs.Prelude.{ℕ, List, [], ◌++◌, Option, Some, None, codes}
use Rattle.std.specs.Fmt.{decimal, signed_decimal}
use Rattle.sg_base.specs.Fields.{address_text}
use Rattle.sg_base.specs.declared.addresses.CallId.{CallId}
use Rattle.sg_base.specs.declared.addresses.Side.{Side}
use Rattle.sg_base.specs.declared.addresses.Side.TheVariants.{Secure, Plain}
use Rattle.sg_base.specs.declared.faults.DropCause.{DropCause}
use Rattle.sg_base.specs.declared.faults.DropCause.TheVariants as drops
use Rattle.sg_base.specs.declared.faults.SdpFault.{SdpFault}
use Rattle.sg_base.specs.declared.faults.SdpFault.TheVariants as sdp
use Rattle.sg_base.specs.declared.faults.SdesFault.{SdesFault}
use Rattle.sg_base.specs.declared.faults.SdesFault.TheVariants as sdes
use Rattle.sg_base.specs.declared.faults.MikeyFault.{MikeyFault}
use Rattle.sg_base.specs.declared.faults.MikeyFault.TheVariants as mikey
use Rattle.sg_base.specs.declared.faults.PskFault.{PskFault}
use Rattle.sg_base.specs.declared.faults.PskFault.TheVariants as psk
use Rattle.sg_base.specs.declared.faults.CsFault.{CsFault}
use Rattle.sg_base.specs.declared.faults.CsFault.TheVariants as cs
use Rattle.sg_base.specs.declared.faults.Refusal.{Refusal}
use Rattle.sg_base.specs.declared.faults.Refusal.TheVariants as refusals
use Rattle.sg_lines.specs.LineText.{hex_text}
use Rattle.sg_outcome.specs.declared.outcomes.Why.{Why}
use Rattle.sg_outcome.specs.declared.outcomes.Why.TheVariants.{Bye, Rejected, Idle}
use Rattle.sg_outcome.specs.declared.outcomes.Outcome.{Outcome}
use Rattle.sg_outcome.specs.declared.outcomes.Outcome.TheVariants.{Made, Live, Sdp, Refused, Ended, Out, Dropped, Unsent}

abbrev pub side_name : Side → List ℕ
side_name Secure = codes "secure"
side_name Plain = codes "plain"

abbrev pub why_name : Why → List ℕ
why_name Bye = codes "bye"
why_name Rejected = codes "rejected"
why_name Idle = codes "idle"

abbrev pub drop_cause_name : DropCause → List ℕ
drop_cause_name drops.Short = codes "Short"
drop_cause_name drops.Version = codes "Version"
drop_cause_name drops.CsrcCut = codes "CsrcCut"
drop_cause_name drops.ExtensionCut = codes "ExtensionCut"
drop_cause_name drops.SsrcUnknown = codes "SsrcUnknown"
drop_cause_name drops.MkiUnknown = codes "MkiUnknown"
drop_cause_name (drops.KeySpent number count) = codes "KeySpent"
drop_cause_name drops.BeforeFirst = codes "BeforeFirst"
drop_cause_name drops.IndexSpent = codes "IndexSpent"
drop_cause_name drops.Repeat = codes "Repeat"
drop_cause_name drops.TooOld = codes "TooOld"
drop_cause_name drops.BadTag = codes "BadTag"
drop_cause_name drops.StreamsFull = codes "StreamsFull"
drop_cause_name drops.RtcpIndexSpent = codes "RtcpIndexSpent"
drop_cause_name drops.PortUnused = codes "PortUnused"
drop_cause_name drops.NotLive = codes "NotLive"
drop_cause_name drops.TooLong = codes "TooLong"
drop_cause_name drops.SourceUnknown = codes "SourceUnknown"

abbrev pub drop_cause_numbers : DropCause → List ℕ
drop_cause_numbers (drops.KeySpent number count) = codes " " ++ decimal number ++ codes " " ++ decimal count
drop_cause_numbers other = []

abbrev pub sdp_fault_name : SdpFault → List ℕ
sdp_fault_name sdp.Order = codes "Order"
sdp_fault_name sdp.Form = codes "Form"
sdp_fault_name sdp.TooLong = codes "TooLong"
sdp_fault_name sdp.TooManyMedia = codes "TooManyMedia"
sdp_fault_name sdp.Address = codes "Address"

abbrev pub sdes_fault_name : SdesFault → List ℕ
sdes_fault_name sdes.NoLine = codes "NoLine"
sdes_fault_name sdes.Tag = codes "Tag"
sdes_fault_name sdes.Suite = codes "Suite"
sdes_fault_name sdes.Key = codes "Key"
sdes_fault_name sdes.Lifetime = codes "Lifetime"
sdes_fault_name sdes.MkiValue = codes "MkiValue"
sdes_fault_name sdes.Parameter = codes "Parameter"

abbrev pub mikey_fault_name : MikeyFault → List ℕ
mikey_fault_name mikey.Cut = codes "Cut"
mikey_fault_name mikey.Version = codes "Version"
mikey_fault_name mikey.DataType = codes "DataType"
mikey_fault_name mikey.Payload = codes "Payload"
mikey_fault_name mikey.Order = codes "Order"
mikey_fault_name mikey.Value = codes "Value"
mikey_fault_name mikey.Trailing = codes "Trailing"

abbrev pub psk_fault_text : PskFault → List ℕ
psk_fault_text psk.IdUnknown = codes "IdUnknown"
psk_fault_text psk.BadMac = codes "BadMac"
psk_fault_text (psk.Skew stamp now) = codes "Skew " ++ signed_decimal stamp ++ codes " " ++ decimal now
psk_fault_text psk.Repeated = codes "Repeated"
psk_fault_text psk.Algorithm = codes "Algorithm"
psk_fault_text psk.KeyType = codes "KeyType"
psk_fault_text psk.CacheFull = codes "CacheFull"
psk_fault_text psk.OtherSession = codes "OtherSession"

abbrev pub cs_fault_name : CsFault → List ℕ
cs_fault_name cs.CsCount = codes "CsCount"
cs_fault_name cs.PolicyMissing = codes "PolicyMissing"
cs_fault_name cs.PolicyValue = codes "PolicyValue"

-- its name, and its numbers and names, each behind a space
abbrev pub refusal_text : Refusal → List ℕ
refusal_text (refusals.Sdp line fault) = codes "Sdp " ++ decimal line ++ codes " " ++ sdp_fault_name fault
refusal_text (refusals.Sdes medium fault) = codes "Sdes " ++ decimal medium ++ codes " " ++ sdes_fault_name fault
refusal_text (refusals.Mikey medium offset fault) = codes "Mikey " ++ decimal medium ++ codes " " ++ decimal offset ++ codes " " ++ mikey_fault_name fault
refusal_text (refusals.Psk medium fault) = codes "Psk " ++ decimal medium ++ codes " " ++ psk_fault_text fault
refusal_text (refusals.Cs medium fault) = codes "Cs " ++ decimal medium ++ codes " " ++ cs_fault_name fault
refusal_text (refusals.KeyMgmt medium) = codes "KeyMgmt " ++ decimal medium
refusal_text (refusals.KeyReused number) = codes "KeyReused " ++ decimal number
refusal_text refusals.RingFull = codes "RingFull"
refusal_text refusals.NoMedia = codes "NoMedia"
refusal_text refusals.MediaCount = codes "MediaCount"
refusal_text refusals.TableFull = codes "TableFull"
refusal_text refusals.CallKnown = codes "CallKnown"
refusal_text refusals.CallUnknown = codes "CallUnknown"
refusal_text refusals.PskKnown = codes "PskKnown"
refusal_text refusals.PskFull = codes "PskFull"
refusal_text (refusals.TickBack last) = codes "TickBack " ++ decimal last
refusal_text refusals.State = codes "State"

abbrev pub call_text : Option CallId → List ℕ
call_text None = codes "-"
call_text (Some call) = decimal call.0

unfoldable pub outcome_line : Outcome → List ℕ
outcome_line (Made call slot media) = codes "made " ++ decimal call.0 ++ codes " " ++ decimal slot ++ codes " " ++ decimal media ++ codes "\n"
outcome_line (Live call) = codes "live " ++ decimal call.0 ++ codes "\n"
outcome_line (Sdp call side text) = codes "sdp " ++ decimal call.0 ++ codes " " ++ side_name side ++ codes " " ++ hex_text text ++ codes "\n"
outcome_line (Refused call cause) = codes "refused " ++ call_text call ++ codes " " ++ refusal_text cause ++ codes "\n"
outcome_line (Ended call slot media why) =
    codes "ended " ++ decimal call.0 ++ codes " " ++ decimal slot ++ codes " " ++ decimal media ++ codes " " ++ why_name why ++ codes "\n"
outcome_line (Out port to octets) = codes "out " ++ decimal port ++ codes " " ++ address_text to ++ codes " " ++ hex_text octets ++ codes "\n"
outcome_line (Dropped port cause) = codes "drop " ++ decimal port ++ codes " " ++ drop_cause_name cause ++ drop_cause_numbers cause ++ codes "\n"
outcome_line (Unsent port to) = codes "unsent " ++ decimal port ++ codes " " ++ address_text to ++ codes "\n"
