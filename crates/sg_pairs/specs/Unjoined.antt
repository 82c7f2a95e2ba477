-- Where no line joins or parts, each event happens at the table, and what the table tells of it is told.
use Rattle.std.specs.Prelude.{◌≡◌, List, map}
use Rattle.sg_gateway.specs.Runs.{outcomes}
use Rattle.sg_gateway.specs.Step.{Event}
use Rattle.sg_pairs.specs.Bridged.{Happens, bridged_events, bridged_outcomes}
use Rattle.sg_pairs.specs.declared.outcomes.BridgeOutcome.TheVariants as tells

pub record IsToldAsItIs (events : List Event) : Type 0 where
  pub happen : bridged_events (map Happens events) ≡ events
  pub told : bridged_outcomes (map Happens events) ≡ map tells.Table (outcomes events)
