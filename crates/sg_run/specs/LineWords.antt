-- The words of the lines that are written: which word stands for what. Whoever reads them goes by these words.
use Rattle.std.specs.Prelude.{◌≡◌, ℕ, List, ◌++◌, Some, None, codes}
use Rattle.std.specs.Fmt.{decimal, signed_decimal}
use Rattle.sg_base.specs.Fields.{address_text}
use Rattle.sg_base.specs.declared.addresses.Side.{Side}
use Rattle.sg_base.specs.declared.addresses.Side.TheVariants as sides
use Rattle.sg_base.specs.declared.faults.DropCause.{DropCause}
use Rattle.sg_base.specs.declared.faults.DropCause.TheVariants as drops
use Rattle.sg_base.specs.declared.faults.SdpFault.{SdpFault}
use Rattle.sg_base.specs.declared.faults.SdpFault.TheVariants as sdp
use Rattle.sg_base.specs.declared.faults.SdesFault.{SdesFault}
use Rattle.sg_base.specs.declared.faults.SdesFault.TheVariants as sdes
use Rattle.sg_base.specs.declared.faults.MikeyFault.{MikeyFault}
use Rattle.sg_base.specs.declared.faults.MikeyFault.TheVariants as mikey
use Rattle.sg_base.specs.declared.faults.PskFault.{PskFault}
use Rattle.sg_base.specs.declared.faults.PskFault.TheVariants as psk
use Rattle.sg_base.specs.declared.faults.CsFault.{CsFault}
use Rattle.sg_base.specs.declared.faults.CsFault.TheVariants as cs
use Rattle.sg_base.specs.declared.faults.Refusal.{Refusal}
use Rattle.sg_base.specs.declared.faults.Refusal.TheVariants as refusals
use Rattle.sg_lines.specs.LineText.{hex_text}
use Rattle.sg_outcome.specs.OutcomeText.{outcome_line}
use Rattle.sg_outcome.specs.declared.outcomes.Outcome.{Outcome}
use Rattle.sg_outcome.specs.declared.outcomes.Outcome.TheVariants as tells
use Rattle.sg_outcome.specs.declared.outcomes.Why.{Why}
use Rattle.sg_outcome.specs.declared.outcomes.Why.TheVariants as whys
use Rattle.sg_pairs.specs.BridgeText.{bridge_outcome_line}
use Rattle.sg_pairs.specs.declared.faults.JoinFault.{JoinFault}
use Rattle.sg_pairs.specs.declared.faults.JoinFault.TheVariants as joins
use Rattle.sg_pairs.specs.declared.outcomes.BridgeOutcome.{BridgeOutcome}
use Rattle.sg_pairs.specs.declared.outcomes.BridgeOutcome.TheVariants as bridges

-- the side to which a text goes
abbrev pub SaysSide : Side → List ℕ → Type 0
SaysSide sides.Secure word = word ≡ codes "secure"
SaysSide sides.Plain word = word ≡ codes "plain"

-- why a call ended
abbrev pub SaysWhy : Why → List ℕ → Type 0
SaysWhy whys.Bye word = word ≡ codes "bye"
SaysWhy whys.Rejected word = word ≡ codes "rejected"
SaysWhy whys.Idle word = word ≡ codes "idle"

-- why a datagram was dropped
abbrev pub SaysDrop : DropCause → List ℕ → Type 0
SaysDrop drops.Short word = word ≡ codes "Short"
SaysDrop drops.Version word = word ≡ codes "Version"
SaysDrop drops.CsrcCut word = word ≡ codes "CsrcCut"
SaysDrop drops.ExtensionCut word = word ≡ codes "ExtensionCut"
SaysDrop drops.SsrcUnknown word = word ≡ codes "SsrcUnknown"
SaysDrop drops.MkiUnknown word = word ≡ codes "MkiUnknown"
SaysDrop (drops.KeySpent number count) word = word ≡ codes "KeySpent " ++ decimal number ++ codes " " ++ decimal count
SaysDrop drops.BeforeFirst word = word ≡ codes "BeforeFirst"
SaysDrop drops.IndexSpent word = word ≡ codes "IndexSpent"
SaysDrop drops.Repeat word = word ≡ codes "Repeat"
SaysDrop drops.TooOld word = word ≡ codes "TooOld"
SaysDrop drops.BadTag word = word ≡ codes "BadTag"
SaysDrop drops.StreamsFull word = word ≡ codes "StreamsFull"
SaysDrop drops.RtcpIndexSpent word = word ≡ codes "RtcpIndexSpent"
SaysDrop drops.PortUnused word = word ≡ codes "PortUnused"
SaysDrop drops.NotLive word = word ≡ codes "NotLive"
SaysDrop drops.TooLong word = word ≡ codes "TooLong"
SaysDrop drops.SourceUnknown word = word ≡ codes "SourceUnknown"

-- what is wrong with a description, with its key line, with its MIKEY message, with the pre-shared key of one, and with its crypto
-- sessions
abbrev pub SaysSdp : SdpFault → List ℕ → Type 0
SaysSdp sdp.Order word = word ≡ codes "Order"
SaysSdp sdp.Form word = word ≡ codes "Form"
SaysSdp sdp.TooLong word = word ≡ codes "TooLong"
SaysSdp sdp.TooManyMedia word = word ≡ codes "TooManyMedia"
SaysSdp sdp.Address word = word ≡ codes "Address"

abbrev pub SaysSdes : SdesFault → List ℕ → Type 0
SaysSdes sdes.NoLine word = word ≡ codes "NoLine"
SaysSdes sdes.Tag word = word ≡ codes "Tag"
SaysSdes sdes.Suite word = word ≡ codes "Suite"
SaysSdes sdes.Key word = word ≡ codes "Key"
SaysSdes sdes.Lifetime word = word ≡ codes "Lifetime"
SaysSdes sdes.MkiValue word = word ≡ codes "MkiValue"
SaysSdes sdes.Parameter word = word ≡ codes "Parameter"

abbrev pub SaysMikey : MikeyFault → List ℕ → Type 0
SaysMikey mikey.Cut word = word ≡ codes "Cut"
SaysMikey mikey.Version word = word ≡ codes "Version"
SaysMikey mikey.DataType word = word ≡ codes "DataType"
SaysMikey mikey.Payload word = word ≡ codes "Payload"
SaysMikey mikey.Order word = word ≡ codes "Order"
SaysMikey mikey.Value word = word ≡ codes "Value"
SaysMikey mikey.Trailing word = word ≡ codes "Trailing"

abbrev pub SaysPsk : PskFault → List ℕ → Type 0
SaysPsk psk.IdUnknown word = word ≡ codes "IdUnknown"
SaysPsk psk.BadMac word = word ≡ codes "BadMac"
SaysPsk (psk.Skew stamp now) word = word ≡ codes "Skew " ++ signed_decimal stamp ++ codes " " ++ decimal now
SaysPsk psk.Repeated word = word ≡ codes "Repeated"
SaysPsk psk.Algorithm word = word ≡ codes "Algorithm"
SaysPsk psk.KeyType word = word ≡ codes "KeyType"
SaysPsk psk.CacheFull word = word ≡ codes "CacheFull"
SaysPsk psk.OtherSession word = word ≡ codes "OtherSession"

abbrev pub SaysCs : CsFault → List ℕ → Type 0
SaysCs cs.CsCount word = word ≡ codes "CsCount"
SaysCs cs.PolicyMissing word = word ≡ codes "PolicyMissing"
SaysCs cs.PolicyValue word = word ≡ codes "PolicyValue"

-- why a signal was refused
abbrev pub SaysRefusal : Refusal → List ℕ → Type 0
SaysRefusal (refusals.Sdp line fault) words = (word : List ℕ) × SaysSdp fault word × (words ≡ codes "Sdp " ++ decimal line ++ codes " " ++ word)
SaysRefusal (refusals.Sdes medium fault) words = (word : List ℕ) × SaysSdes fault word × (words ≡ codes "Sdes " ++ decimal medium ++ codes " " ++ word)
SaysRefusal (refusals.Mikey medium offset fault) words =
    (word : List ℕ) × SaysMikey fault word × (words ≡ codes "Mikey " ++ decimal medium ++ codes " " ++ decimal offset ++ codes " " ++ word)
SaysRefusal (refusals.Psk medium fault) words = (word : List ℕ) × SaysPsk fault word × (words ≡ codes "Psk " ++ decimal medium ++ codes " " ++ word)
SaysRefusal (refusals.Cs medium fault) words = (word : List ℕ) × SaysCs fault word × (words ≡ codes "Cs " ++ decimal medium ++ codes " " ++ word)
SaysRefusal (refusals.KeyMgmt medium) words = words ≡ codes "KeyMgmt " ++ decimal medium
SaysRefusal (refusals.KeyReused number) words = words ≡ codes "KeyReused " ++ decimal number
SaysRefusal (refusals.TickBack last) words = words ≡ codes "TickBack " ++ decimal last
SaysRefusal refusals.RingFull words = words ≡ codes "RingFull"
SaysRefusal refusals.NoMedia words = words ≡ codes "NoMedia"
SaysRefusal refusals.MediaCount words = words ≡ codes "MediaCount"
SaysRefusal refusals.TableFull words = words ≡ codes "TableFull"
SaysRefusal refusals.CallKnown words = words ≡ codes "CallKnown"
SaysRefusal refusals.CallUnknown words = words ≡ codes "CallUnknown"
SaysRefusal refusals.PskKnown words = words ≡ codes "PskKnown"
SaysRefusal refusals.PskFull words = words ≡ codes "PskFull"
SaysRefusal refusals.State words = words ≡ codes "State"

-- why a call isn't joined, or parted
abbrev pub SaysUnjoined : JoinFault → List ℕ → Type 0
SaysUnjoined joins.CallUnknown words = words ≡ codes "CallUnknown"
SaysUnjoined joins.Same words = words ≡ codes "Same"
SaysUnjoined joins.Unready words = words ≡ codes "Unready"
SaysUnjoined (joins.Joined call) words = words ≡ codes "Joined " ++ decimal call.0
SaysUnjoined joins.MediaCount words = words ≡ codes "MediaCount"
SaysUnjoined joins.NotJoined words = words ≡ codes "NotJoined"

-- the line of an outcome
abbrev pub IsLineOf : Outcome → List ℕ → Type 0
IsLineOf (tells.Made id slot media) line = line ≡ codes "made " ++ decimal id.0 ++ codes " " ++ decimal slot ++ codes " " ++ decimal media ++ codes "\n"
IsLineOf (tells.Live id) line = line ≡ codes "live " ++ decimal id.0 ++ codes "\n"
IsLineOf (tells.Sdp id side text) line =
    (word : List ℕ) × SaysSide side word × (line ≡ codes "sdp " ++ decimal id.0 ++ codes " " ++ word ++ codes " " ++ hex_text text ++ codes "\n")
IsLineOf (tells.Refused (Some id) cause) line =
    (words : List ℕ) × SaysRefusal cause words × (line ≡ codes "refused " ++ decimal id.0 ++ codes " " ++ words ++ codes "\n")
IsLineOf (tells.Refused None cause) line = (words : List ℕ) × SaysRefusal cause words × (line ≡ codes "refused - " ++ words ++ codes "\n")
IsLineOf (tells.Ended id slot media why) line =
    (word : List ℕ) × SaysWhy why word
    × (line ≡ codes "ended " ++ decimal id.0 ++ codes " " ++ decimal slot ++ codes " " ++ decimal media ++ codes " " ++ word ++ codes "\n")
IsLineOf (tells.Out port to octets) line = line ≡ codes "out " ++ decimal port ++ codes " " ++ address_text to ++ codes " " ++ hex_text octets ++ codes "\n"
IsLineOf (tells.Dropped port cause) line = (words : List ℕ) × SaysDrop cause words × (line ≡ codes "drop " ++ decimal port ++ codes " " ++ words ++ codes "\n")
IsLineOf (tells.Unsent port to) line = line ≡ codes "unsent " ++ decimal port ++ codes " " ++ address_text to ++ codes "\n"

-- the line that is written of each outcome has its words
abbrev pub SaysWhatIsTold : Outcome → Type 0
SaysWhatIsTold o = IsLineOf o (outcome_line o)

-- the line of an outcome of a bridge
abbrev pub IsLineOfBridge : BridgeOutcome → List ℕ → Type 0
IsLineOfBridge (bridges.Table o) line = IsLineOf o line
IsLineOfBridge (bridges.Joined first second) line = line ≡ codes "joined " ++ decimal first.0 ++ codes " " ++ decimal second.0 ++ codes "\n"
IsLineOfBridge (bridges.Parted first second) line = line ≡ codes "parted " ++ decimal first.0 ++ codes " " ++ decimal second.0 ++ codes "\n"
IsLineOfBridge (bridges.Unjoined id cause) line = (words : List ℕ) × SaysUnjoined cause words × (line ≡ codes "unjoined " ++ decimal id.0 ++ codes " " ++ words ++ codes "\n")
IsLineOfBridge (bridges.Lost port cause) line = (words : List ℕ) × SaysDrop cause words × (line ≡ codes "lost " ++ decimal port ++ codes " " ++ words ++ codes "\n")

-- and so the line of each outcome of a bridge
abbrev pub SaysWhatABridgeTells : BridgeOutcome → Type 0
SaysWhatABridgeTells o = IsLineOfBridge o (bridge_outcome_line o)
