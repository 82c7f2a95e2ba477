-- The numbers of causes and refusals.
use Rattle.std.specs.Prelude.{ℕ}
use Rattle.sg_base.specs.declared.faults.DropCause.{DropCause}
use Rattle.sg_base.specs.declared.faults.DropCause.TheVariants.{Short, Version, CsrcCut, ExtensionCut, SsrcUnknown, MkiUnknown, KeySpent, BeforeFirst, IndexSpent, Repeat, TooOld, BadTag, StreamsFull, RtcpIndexSpent, PortUnused, NotLive, TooLong, SourceUnknown}
use Rattle.sg_base.specs.declared.faults.PskFault.{PskFault}
use Rattle.sg_base.specs.declared.faults.PskFault.TheVariants.{IdUnknown, BadMac, Skew, Repeated, Algorithm, KeyType, CacheFull, OtherSession}
use Rattle.sg_base.specs.declared.faults.Refusal.{Refusal}
use Rattle.sg_base.specs.declared.faults.Refusal.TheVariants as refusals

abbrev pub drop_cause_number : DropCause → ℕ
drop_cause_number Short = 1
drop_cause_number Version = 2
drop_cause_number CsrcCut = 3
drop_cause_number ExtensionCut = 4
drop_cause_number SsrcUnknown = 5
drop_cause_number MkiUnknown = 6
drop_cause_number (KeySpent number count) = 7
drop_cause_number BeforeFirst = 8
drop_cause_number IndexSpent = 9
drop_cause_number Repeat = 10
drop_cause_number TooOld = 11
drop_cause_number BadTag = 12
drop_cause_number StreamsFull = 13
drop_cause_number RtcpIndexSpent = 14
drop_cause_number PortUnused = 15
drop_cause_number NotLive = 16
drop_cause_number TooLong = 17
drop_cause_number SourceUnknown = 18

abbrev pub psk_fault_number : PskFault → ℕ
psk_fault_number IdUnknown = 1
psk_fault_number BadMac = 2
psk_fault_number (Skew stamp now) = 3
psk_fault_number Repeated = 4
psk_fault_number Algorithm = 5
psk_fault_number KeyType = 6
psk_fault_number CacheFull = 7
psk_fault_number OtherSession = 8

abbrev pub refusal_number : Refusal → ℕ
refusal_number (refusals.Sdp line fault) = 1
refusal_number (refusals.Sdes medium fault) = 2
refusal_number (refusals.Mikey medium offset fault) = 3
refusal_number (refusals.Psk medium fault) = 4
refusal_number (refusals.Cs medium fault) = 5
refusal_number (refusals.KeyMgmt medium) = 6
refusal_number (refusals.KeyReused number) = 7
refusal_number refusals.RingFull = 8
refusal_number refusals.NoMedia = 9
refusal_number refusals.MediaCount = 10
refusal_number refusals.TableFull = 11
refusal_number refusals.CallKnown = 12
refusal_number refusals.CallUnknown = 13
refusal_number refusals.PskKnown = 14
refusal_number refusals.PskFull = 15
refusal_number (refusals.TickBack last) = 16
refusal_number refusals.State = 20
