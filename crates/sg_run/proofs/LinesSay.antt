-- The line of an outcome has its words.
use Rattle.std.proofs.Common.{ℕ, List, ◌++◌, Some, None, refl, ap, append_assoc}
use Rattle.std.specs.Prelude.{codes}
use Rattle.std.specs.Fmt.{decimal}
use Rattle.sg_base.specs.declared.addresses.Side.{Side}
use Rattle.sg_base.specs.declared.addresses.Side.TheVariants as sides
use Rattle.sg_base.specs.declared.faults.DropCause.{DropCause}
use Rattle.sg_base.specs.declared.faults.DropCause.TheVariants as drops
use Rattle.sg_base.specs.declared.faults.SdpFault.{SdpFault}
use Rattle.sg_base.specs.declared.faults.SdpFault.TheVariants as sdp
use Rattle.sg_base.specs.declared.faults.SdesFault.{SdesFault}
use Rattle.sg_base.specs.declared.faults.SdesFault.TheVariants as sdes
use Rattle.sg_base.specs.declared.faults.MikeyFault.{MikeyFault}
use Rattle.sg_base.specs.declared.faults.MikeyFault.TheVariants as mikey
use Rattle.sg_base.specs.declared.faults.PskFault.{PskFault}
use Rattle.sg_base.specs.declared.faults.PskFault.TheVariants as psk
use Rattle.sg_base.specs.declared.faults.CsFault.{CsFault}
use Rattle.sg_base.specs.declared.faults.CsFault.TheVariants as cs
use Rattle.sg_base.specs.declared.faults.Refusal.{Refusal}
use Rattle.sg_base.specs.declared.faults.Refusal.TheVariants as refusals
use Rattle.sg_outcome.specs.OutcomeText.{cs_fault_name, drop_cause_name, drop_cause_numbers, mikey_fault_name, outcome_line, psk_fault_text, refusal_text, sdes_fault_name, sdp_fault_name, side_name, why_name}
use Rattle.sg_outcome.specs.declared.outcomes.Outcome.{Outcome}
use Rattle.sg_outcome.specs.declared.outcomes.Outcome.TheVariants as tells
use Rattle.sg_outcome.specs.declared.outcomes.Why.{Why}
use Rattle.sg_outcome.specs.declared.outcomes.Why.TheVariants as whys
use Rattle.sg_pairs.specs.BridgeText.{bridge_outcome_line, join_fault_text}
use Rattle.sg_pairs.specs.declared.faults.JoinFault.{JoinFault}
use Rattle.sg_pairs.specs.declared.faults.JoinFault.TheVariants as joins
use Rattle.sg_pairs.specs.declared.outcomes.BridgeOutcome.{BridgeOutcome}
use Rattle.sg_pairs.specs.declared.outcomes.BridgeOutcome.TheVariants as bridges
use Rattle.sg_run.specs.LineWords.{SaysCs, SaysDrop, SaysMikey, SaysPsk, SaysRefusal, SaysSdes, SaysSdp, SaysSide, SaysUnjoined, SaysWhatABridgeTells, SaysWhatIsTold, SaysWhy}

side_says : (side : Side) → SaysSide side (side_name side)
side_says sides.Secure = refl
side_says sides.Plain = refl

why_says : (why : Why) → SaysWhy why (why_name why)
why_says whys.Bye = refl
why_says whys.Rejected = refl
why_says whys.Idle = refl

-- a drop's name and its numbers
abbrev drop_words : DropCause → List ℕ
drop_words cause = drop_cause_name cause ++ drop_cause_numbers cause

drop_says : (cause : DropCause) → SaysDrop cause (drop_words cause)
drop_says (drops.KeySpent number count) = refl
drop_says drops.Short = refl
drop_says drops.Version = refl
drop_says drops.CsrcCut = refl
drop_says drops.ExtensionCut = refl
drop_says drops.SsrcUnknown = refl
drop_says drops.MkiUnknown = refl
drop_says drops.BeforeFirst = refl
drop_says drops.IndexSpent = refl
drop_says drops.Repeat = refl
drop_says drops.TooOld = refl
drop_says drops.BadTag = refl
drop_says drops.StreamsFull = refl
drop_says drops.RtcpIndexSpent = refl
drop_says drops.PortUnused = refl
drop_says drops.NotLive = refl
drop_says drops.TooLong = refl
drop_says drops.SourceUnknown = refl

sdp_says : (fault : SdpFault) → SaysSdp fault (sdp_fault_name fault)
sdp_says sdp.Order = refl
sdp_says sdp.Form = refl
sdp_says sdp.TooLong = refl
sdp_says sdp.TooManyMedia = refl
sdp_says sdp.Address = refl

sdes_says : (fault : SdesFault) → SaysSdes fault (sdes_fault_name fault)
sdes_says sdes.NoLine = refl
sdes_says sdes.Tag = refl
sdes_says sdes.Suite = refl
sdes_says sdes.Key = refl
sdes_says sdes.Lifetime = refl
sdes_says sdes.MkiValue = refl
sdes_says sdes.Parameter = refl

mikey_says : (fault : MikeyFault) → SaysMikey fault (mikey_fault_name fault)
mikey_says mikey.Cut = refl
mikey_says mikey.Version = refl
mikey_says mikey.DataType = refl
mikey_says mikey.Payload = refl
mikey_says mikey.Order = refl
mikey_says mikey.Value = refl
mikey_says mikey.Trailing = refl

psk_says : (fault : PskFault) → SaysPsk fault (psk_fault_text fault)
psk_says psk.IdUnknown = refl
psk_says psk.BadMac = refl
psk_says (psk.Skew stamp now) = refl
psk_says psk.Repeated = refl
psk_says psk.Algorithm = refl
psk_says psk.KeyType = refl
psk_says psk.CacheFull = refl
psk_says psk.OtherSession = refl

cs_says : (fault : CsFault) → SaysCs fault (cs_fault_name fault)
cs_says cs.CsCount = refl
cs_says cs.PolicyMissing = refl
cs_says cs.PolicyValue = refl

refusal_says : (cause : Refusal) → SaysRefusal cause (refusal_text cause)
refusal_says (refusals.Sdp line fault) = (sdp_fault_name fault, sdp_says fault, refl)
refusal_says (refusals.Sdes medium fault) = (sdes_fault_name fault, sdes_says fault, refl)
refusal_says (refusals.Mikey medium offset fault) = (mikey_fault_name fault, mikey_says fault, refl)
refusal_says (refusals.Psk medium fault) = (psk_fault_text fault, psk_says fault, refl)
refusal_says (refusals.Cs medium fault) = (cs_fault_name fault, cs_says fault, refl)
refusal_says (refusals.KeyMgmt medium) = refl
refusal_says (refusals.KeyReused number) = refl
refusal_says (refusals.TickBack last) = refl
refusal_says refusals.RingFull = refl
refusal_says refusals.NoMedia = refl
refusal_says refusals.MediaCount = refl
refusal_says refusals.TableFull = refl
refusal_says refusals.CallKnown = refl
refusal_says refusals.CallUnknown = refl
refusal_says refusals.PskKnown = refl
refusal_says refusals.PskFull = refl
refusal_says refusals.State = refl

pub lines_say : (o : Outcome) → SaysWhatIsTold o
unfolding outcome_line
lines_say (tells.Made id slot media) = refl
lines_say (tells.Live id) = refl
lines_say (tells.Sdp id side text) = (side_name side, side_says side, refl)
lines_say (tells.Refused None cause) = (refusal_text cause, refusal_says cause, refl)
lines_say (tells.Refused (Some id) cause) = (refusal_text cause, refusal_says cause, refl)
lines_say (tells.Ended id slot media why) = (why_name why, why_says why, refl)
lines_say (tells.Out port to octets) = refl
lines_say (tells.Dropped port cause) = (
  drop_words cause,
  drop_says cause,
  ap (λ (l : List ℕ). l ++ codes "\n") (append_assoc (codes "drop " ++ decimal port ++ codes " ") (drop_cause_name cause) (drop_cause_numbers cause)),
)
lines_say (tells.Unsent port to) = refl

unjoined_says : (cause : JoinFault) → SaysUnjoined cause (join_fault_text cause)
unjoined_says joins.CallUnknown = refl
unjoined_says joins.Same = refl
unjoined_says joins.Unready = refl
unjoined_says (joins.Joined call) = refl
unjoined_says joins.MediaCount = refl
unjoined_says joins.NotJoined = refl

pub bridge_lines_say : (o : BridgeOutcome) → SaysWhatABridgeTells o
unfolding bridge_outcome_line
bridge_lines_say (bridges.Table o) = lines_say o
bridge_lines_say (bridges.Joined first second) = refl
bridge_lines_say (bridges.Parted first second) = refl
bridge_lines_say (bridges.Unjoined id cause) = (join_fault_text cause, unjoined_says cause, refl)
bridge_lines_say (bridges.Lost port cause) = (
  drop_words cause,
  drop_says cause,
  ap (λ (l : List ℕ). l ++ codes "\n") (append_assoc (codes "lost " ++ decimal port ++ codes " ") (drop_cause_name cause) (drop_cause_numbers cause)),
)
