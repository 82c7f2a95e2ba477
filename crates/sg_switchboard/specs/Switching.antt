-- What a table whose calls may be joined tells, one thing that is said after the other.
use Rattle.std.specs.Prelude.{◌≡◌, ℕ, List, [], ◌∷◌, option_to_list}
use Rattle.std.specs.List.{flat_map}
use Rattle.sg_gateway.specs.Step.{Event}
use Rattle.sg_gateway.specs.World.{World, empty}
use Rattle.sg_outcome.specs.declared.outcomes.Outcome.{Outcome}
use Rattle.sg_outcome.specs.declared.outcomes.Outcome.TheVariants.{Dropped, Out}
use Rattle.sg_pairs.specs.Bridged.{Bridging, Happens, Said, bridging, bridgings_from}
use Rattle.sg_pairs.specs.Pairs.{Members, after_outcome, no_members}
use Rattle.sg_pairs.specs.declared.outcomes.BridgeOutcome.{BridgeOutcome}
use Rattle.sg_pairs.specs.declared.outcomes.BridgeOutcome.TheVariants as tells
use Rattle.sg_switchboard.specs.declared.switched.Switched.{Switched}
use Rattle.sg_switchboard.specs.declared.switched.SwitchedEnd.{SwitchedEnd}
use Rattle.sg_switchboard.specs.declared.switched.SwitchedEnd.TheVariants as ends
use Rattle.sg_table.specs.Standing.{TableStandsFor}
use Rattle.sg_table.specs.Values.{TableValue}

-- a world, and what is known of its calls
pub record State : Type 0 where
  pub world : World
  pub calls : Members

abbrev pub start : State
start = record { world = empty; calls = no_members }

-- a table, and what is known of its calls
pub record SwitchboardValue : Type 0 where
  pub table : TableValue
  pub calls : Members

abbrev pub StandsFor : SwitchboardValue → State → Type 0
StandsFor board s = TableStandsFor board.table s.world × (board.calls ≡ s.calls)

abbrev pub after : Bridging → State
after b = record { world = b.world; calls = b.calls }

-- ---- things that are said, in order

-- what they tell from a state on
abbrev pub told_from : State → List Said → List BridgeOutcome
told_from s said = flat_map (λ b. b.told) (bridgings_from s.world s.calls said)

-- the state after them
abbrev pub state_after : State → List Said → State
state_after s [] = s
state_after s (x ∷ xs) = state_after (after (bridging s.world s.calls x)) xs

-- an outcome of the table, and the pair that it parts
abbrev pub told_next : Members → Outcome → List BridgeOutcome
told_next calls o = tells.Table o ∷ option_to_list (after_outcome calls o).parted

-- ---- one thing that is said

-- it is all that is told, and the switchboard stands for the state after it
abbrev pub Tells : Bridging → BridgeOutcome → SwitchboardValue → Type 0
Tells b told board = (b.told ≡ told ∷ []) × StandsFor board (after b)

abbrev pub outcome_by : List ℕ → SwitchedEnd → BridgeOutcome
outcome_by octets (ends.Out port to) = tells.Table (Out port to octets)
outcome_by octets (ends.Dropped port cause) = tells.Table (Dropped port cause)
outcome_by octets (ends.Lost port cause) = tells.Lost port cause

-- what a datagram tells that has so become
abbrev pub outcome_of : Switched → BridgeOutcome
outcome_of switched = outcome_by switched.pad switched.end

-- that is all that is told, and the switchboard stands for the state after it
abbrev pub HasBecome : Bridging → Switched → SwitchboardValue → Type 0
HasBecome b switched board = Tells b (outcome_of switched) board

abbrev pub IsSwitched : State → Event → Switched → SwitchboardValue → Type 0
IsSwitched s e switched board = HasBecome (bridging s.world s.calls (Happens e)) switched board
