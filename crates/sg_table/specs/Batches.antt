-- What a batch gives: what its datagrams give when they come one at a time.
use Rattle.std.specs.Prelude.{◌≡◌, ℕ, List, [], ◌∷◌, map, Option, Some, None}
use Rattle.std.specs.List.{flat_map}
use Rattle.sg_base.specs.declared.addresses.Address.{Address}
use Rattle.sg_base.specs.declared.faults.DropCause.TheVariants.{PortUnused}
use Rattle.sg_call.specs.Handling.{handled_of}
use Rattle.sg_call.specs.declared.handled.End.{End}
use Rattle.sg_call.specs.declared.handled.End.TheVariants.{Dropped}
use Rattle.sg_call.specs.declared.handled.Handled.{Handled}
use Rattle.sg_gateway.specs.Datagrams.{arrived_in}
use Rattle.sg_gateway.specs.Events.{outcomes_from}
use Rattle.sg_gateway.specs.Octets.{as_octets}
use Rattle.sg_gateway.specs.Ports.{call_at}
use Rattle.sg_gateway.specs.Runs.{world_after}
use Rattle.sg_gateway.specs.Step.{Event, Datagram, step}
use Rattle.sg_gateway.specs.World.{Call, World}
use Rattle.sg_outcome.specs.declared.outcomes.Outcome.{Outcome}
use Rattle.sg_table.specs.Handling.{outcome_by}
use Rattle.sg_table.specs.Standing.{TableStandsFor}
use Rattle.sg_table.specs.Values.{TableValue}
use Rattle.sg_table.specs.declared.arrival.Arrival.{Arrival}

abbrev pub octets_of : Option (List ℕ) → List ℕ
octets_of None = []
octets_of (Some octets) = octets

-- an arrival as an event
abbrev pub arrived : Arrival → Event
arrived a = Datagram a.port a.from (as_octets (octets_of a.pad))

-- what is handed back of a datagram, by the call that has its port
abbrev pub handled_in : ℕ → ℕ → Address → List ℕ → Option Call → Handled
handled_in now port from d None = record { pad = d; end = Dropped PortUnused }
handled_in now port from d (Some c) = handled_of d (arrived_in now port from d c)

abbrev pub handled_at : World → Arrival → Handled
handled_at w a = handled_in w.moment a.port a.from (octets_of a.pad) (call_at w a.port)

-- the pad and the end of an arrival; its port and its source stay
abbrev pub with_handled : Arrival → Handled → Arrival
with_handled a h = record a { pad = Some h.pad; end = Some h.end }

-- each with what is handed back of it when they come one at a time, in order
abbrev pub answered : World → List Arrival → List Arrival
answered w [] = []
answered w (a ∷ later) = with_handled a (handled_at w a) ∷ answered (step w (arrived a)).world later

abbrev pub told_by : ℕ → Option (List ℕ) → Option End → List Outcome
told_by port (Some octets) (Some end) = outcome_by port octets end ∷ []
told_by port None end = []
told_by port (Some octets) None = []

-- what the arrivals tell, in order of arrival
abbrev pub told_of : List Arrival → List Outcome
told_of arrivals = flat_map (λ a. told_by a.port a.pad a.end) arrivals

-- an arrival that comes by itself is handed back so and tells what its datagram tells, and the table stands for the
-- world after it
pub record IsDelivered (w : World) (old new : Arrival) (table : TableValue) : Type 0 where
  pub is : new ≡ with_handled old (handled_at w old)
  pub told : told_by new.port new.pad new.end ≡ (step w (arrived old)).outcomes
  pub stands : TableStandsFor table (world_after w (arrived old ∷ []))

-- The arrivals are answered as if each had come by itself, tell in their order what these datagrams tell, and the
-- table stands for the world after them.
pub record IsBatched (w : World) (old new : List Arrival) (table : TableValue) : Type 0 where
  pub are : new ≡ answered w old
  pub told : told_of new ≡ outcomes_from w (map arrived old)
  pub stands : TableStandsFor table (world_after w (map arrived old))
