-- The one spelling of each outcome of a bridge.
use Rattle.std.specs.Prelude.{ℕ, List, ◌++◌, codes}
use Rattle.std.specs.Fmt.{decimal}
use Rattle.sg_outcome.specs.OutcomeText.{drop_cause_name, drop_cause_numbers, outcome_line}
use Rattle.sg_pairs.specs.declared.faults.JoinFault.{JoinFault}
use Rattle.sg_pairs.specs.declared.faults.JoinFault.TheVariants as faults
use Rattle.sg_pairs.specs.declared.outcomes.BridgeOutcome.{BridgeOutcome}
use Rattle.sg_pairs.specs.declared.outcomes.BridgeOutcome.TheVariants as tells

abbrev pub join_fault_text : JoinFault → List ℕ
join_fault_text faults.CallUnknown = codes "CallUnknown"
join_fault_text faults.Same = codes "Same"
join_fault_text faults.Unready = codes "Unready"
join_fault_text (faults.Joined call) = codes "Joined " ++ decimal call.0
join_fault_text faults.MediaCount = codes "MediaCount"
join_fault_text faults.NotJoined = codes "NotJoined"

unfoldable pub bridge_outcome_line : BridgeOutcome → List ℕ
bridge_outcome_line (tells.Table outcome) = outcome_line outcome
bridge_outcome_line (tells.Joined first second) = codes "joined " ++ decimal first.0 ++ codes " " ++ decimal second.0 ++ codes "\n"
bridge_outcome_line (tells.Parted first second) = codes "parted " ++ decimal first.0 ++ codes " " ++ decimal second.0 ++ codes "\n"
bridge_outcome_line (tells.Unjoined call cause) = codes "unjoined " ++ decimal call.0 ++ codes " " ++ join_fault_text cause ++ codes "\n"
bridge_outcome_line (tells.Lost port cause) = codes "lost " ++ decimal port ++ codes " " ++ drop_cause_name cause ++ drop_cause_numbers cause ++ codes "\n"
