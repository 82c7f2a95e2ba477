-- What becomes of a datagram.
use Rattle.std.specs.Prelude.{◌≡◌, ℕ, List, [], ◌∷◌}
use Rattle.sg_base.specs.declared.addresses.Address.{Address}
use Rattle.sg_call.specs.declared.handled.End.{End}
use Rattle.sg_call.specs.declared.handled.End.TheVariants as ends
use Rattle.sg_call.specs.declared.handled.Handled.{Handled}
use Rattle.sg_gateway.specs.Events.{outcomes_from}
use Rattle.sg_gateway.specs.Octets.{as_octets}
use Rattle.sg_gateway.specs.Runs.{world_after}
use Rattle.sg_gateway.specs.Step.{Datagram}
use Rattle.sg_gateway.specs.World.{World}
use Rattle.sg_outcome.specs.declared.outcomes.Outcome.{Outcome}
use Rattle.sg_outcome.specs.declared.outcomes.Outcome.TheVariants.{Out, Dropped}
use Rattle.sg_table.specs.Standing.{TableStandsFor}
use Rattle.sg_table.specs.Values.{TableValue}

abbrev pub outcome_by : ℕ → List ℕ → End → Outcome
outcome_by port octets (ends.Out from to) = Out from to octets
outcome_by port octets (ends.Dropped cause) = Dropped port cause

-- what a datagram at this port tells
abbrev pub outcome_of : ℕ → Handled → Outcome
outcome_of port handled = outcome_by port handled.pad handled.end

-- a datagram that is dropped is handed back as it came
abbrev pub IsBack : List ℕ → List ℕ → End → Type 0
IsBack octets pad (ends.Out from to) = Unit {0}
IsBack octets pad (ends.Dropped cause) = pad ≡ octets

-- it tells what the datagram tells, and the table stands for the world after it
pub record IsHandled (w : World) (port : ℕ) (from : Address) (octets : List ℕ) (handled : Handled) (table : TableValue) : Type 0 where
  pub told : outcome_of port handled ∷ [] ≡ outcomes_from w (Datagram port from (as_octets octets) ∷ [])
  pub back : IsBack octets handled.pad handled.end
  pub stands : TableStandsFor table (world_after w (Datagram port from (as_octets octets) ∷ []))
