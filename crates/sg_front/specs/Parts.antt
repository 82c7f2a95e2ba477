-- Parts of a front: how datagrams come to its table, and how what becomes of them leaves, where legs share their ports.
use Rattle.std.specs.Prelude.{ℕ, true, List, [], ◌∷◌, Option, option_map}
use Rattle.sg_call.specs.declared.handled.End.{End}
use Rattle.sg_call.specs.declared.handled.End.TheVariants.{Out, Dropped}
use Rattle.sg_front.specs.States.{FrontValue, State}
use Rattle.sg_gateway.specs.Octets.{as_octets}
use Rattle.sg_gateway.specs.World.{World}
use Rattle.sg_mux.specs.Legs.{arrived_port, leaves}
use Rattle.sg_mux.specs.declared.known.Known.{Known}
use Rattle.sg_table.specs.Batches.{octets_of}
use Rattle.sg_table.specs.Values.{TableValue}
use Rattle.sg_table.specs.declared.arrival.Arrival.{Arrival}

-- this world, where legs may share their ports
abbrev pub shared : World → List (Option Known) → State
shared w calls = record { muxes = true; world = w; calls = calls }

-- a front of this table, whose legs may
abbrev pub sharing : TableValue → List (Option Known) → FrontValue
sharing table calls = record { table = table; muxes = true; calls = calls }

-- ---- datagrams of a batch

-- the arrival at the port at which the table takes it
abbrev pub taken : List (Option Known) → Arrival → Arrival
taken calls a = record a { port = arrived_port calls a.port (as_octets (octets_of a.pad)).items }

-- an end, as the packet leaves
abbrev pub departed : List (Option Known) → End → End
departed calls (Out port to) = Out (leaves calls port to).port (leaves calls port to).to
departed calls (Dropped cause) = Dropped cause

-- the arrival at this port, with its end as the packet leaves
abbrev pub given_back : List (Option Known) → ℕ → Arrival → Arrival
given_back calls port a = record a { port = port; end = option_map (departed calls) a.end }

-- each at its port
abbrev pub all_given_back : List (Option Known) → List ℕ → List Arrival → List Arrival
all_given_back calls ports [] = []
all_given_back calls [] (a ∷ later) = a ∷ later
all_given_back calls (port ∷ ports) (a ∷ later) = given_back calls port a ∷ all_given_back calls ports later
