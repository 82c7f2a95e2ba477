-- The gateway whose legs may share their ports, event by event; where they may not, it is the world of its calls alone.
use Rattle.std.specs.Prelude.{◌≡◌, ℕ, Bool, true, false, List, [], ◌∷◌, ◌++◌, map, Option}
use Rattle.std.specs.List.{list_any}
use Rattle.sg_base.specs.declared.addresses.Address.{Address}
use Rattle.sg_call.specs.declared.handled.Handled.{Handled}
use Rattle.sg_gateway.specs.Events.{outcomes_from}
use Rattle.sg_gateway.specs.Octets.{as_octets}
use Rattle.sg_gateway.specs.Runs.{world_after}
use Rattle.sg_gateway.specs.Step.{Event, Datagram, step}
use Rattle.sg_gateway.specs.World.{World, empty}
use Rattle.sg_mux.specs.Muxed.{Muxing, is_text, nobody}
use Rattle.sg_mux.specs.Via.{muxing_at, via}
use Rattle.sg_mux.specs.declared.known.Known.{Known}
use Rattle.sg_outcome.specs.declared.outcomes.Outcome.{Outcome}
use Rattle.sg_table.specs.Batches.{arrived, told_of}
use Rattle.sg_table.specs.Handling.{IsBack, outcome_of}
use Rattle.sg_table.specs.Standing.{TableStandsFor}
use Rattle.sg_table.specs.Values.{TableValue}
use Rattle.sg_table.specs.declared.arrival.Arrival.{Arrival}

-- whether legs may share their ports, the world, and by slot what is known of calls whose legs may
pub record State : Type 0 where
  pub muxes : Bool
  pub world : World
  pub calls : List (Option Known)

abbrev pub start : Bool → State
start muxes = record { muxes = muxes; world = empty; calls = nobody }

-- this world, where no leg may share its ports
abbrev pub unshared : World → State
unshared w = record { muxes = false; world = w; calls = nobody }

-- ---- one event

-- the event as it comes to the world
abbrev pub comes : Bool → List (Option Known) → Event → Event
comes false calls e = e
comes true calls e = via calls e

abbrev pub world_next : State → Event → World
world_next s e = (step s.world (comes s.muxes s.calls e)).world

-- what is known after an event of which these outcomes come, and what is told of them
abbrev pub muxing : Bool → List (Option Known) → Event → List Outcome → Muxing
muxing false calls e outcomes = record { calls = calls; told = outcomes }
muxing true calls e outcomes = muxing_at calls e outcomes

abbrev pub muxing_next : State → Event → Muxing
muxing_next s e = muxing s.muxes s.calls e (step s.world (comes s.muxes s.calls e)).outcomes

abbrev pub next : State → Event → State
next s e = record { muxes = s.muxes; world = world_next s e; calls = (muxing_next s e).calls }

-- ---- events, in order

-- what they tell from a state on
abbrev pub told_from : State → List Event → List Outcome
told_from s [] = []
told_from s (e ∷ es) = (muxing_next s e).told ++ told_from (next s e) es

-- the state after them
abbrev pub state_after : State → List Event → State
state_after s [] = s
state_after s (e ∷ es) = state_after (next s e) es

-- the same events as they come to the world
abbrev pub came_from : State → List Event → List Event
came_from s [] = []
came_from s (e ∷ es) = comes s.muxes s.calls e ∷ came_from (next s e) es

-- ---- a front: a table, and before it the legs that share their ports

pub record FrontValue : Type 0 where
  pub table : TableValue
  pub muxes : Bool
  pub calls : List (Option Known)

-- the front knows the same of such legs, and its table stands for the world
pub record FrontStandsFor (front : FrontValue) (s : State) : Type 0 where
  pub muxes : s.muxes ≡ front.muxes
  pub calls : s.calls ≡ front.calls
  pub world : TableStandsFor front.table s.world

-- what is told of events, and the front stands for the state after them
abbrev pub IsTold : List Outcome → FrontValue → State → List Event → Type 0
IsTold told front s events = (told ≡ told_from s events) × FrontStandsFor front (state_after s events)

-- the table stands for the world after events, of which a text would be told
abbrev pub IsUntold : TableValue → World → List Event → Type 0
IsUntold table w events = TableStandsFor table (world_after w events) × (list_any is_text (outcomes_from w events) ≡ true)

-- Memory was wanting for a text's line: the table has taken the events, and what is known of legs that may share their
-- ports stays.
pub record IsTakenUntold (old new : FrontValue) (events : List Event) : Type 0 where
  pub muxes : old.muxes ≡ true
  pub known : new ≡ record old { table = new.table }
  pub untold : (s : State) → FrontStandsFor old s → IsUntold new.table s.world events

-- It tells what the datagram tells at the port at which it came, and the front stands for the state after it.
pub record IsHandled (s : State) (port : ℕ) (from : Address) (octets : List ℕ) (handled : Handled) (front : FrontValue) : Type 0 where
  pub told : outcome_of port handled ∷ [] ≡ told_from s (Datagram port from (as_octets octets) ∷ [])
  pub back : IsBack octets handled.pad handled.end
  pub stands : FrontStandsFor front (state_after s (Datagram port from (as_octets octets) ∷ []))

-- The arrivals tell in their order what their datagrams tell when they come one at a time, and the front stands for the
-- state after them.
pub record IsBatched (s : State) (old new : List Arrival) (front : FrontValue) : Type 0 where
  pub told : told_of new ≡ told_from s (map arrived old)
  pub stands : FrontStandsFor front (state_after s (map arrived old))
