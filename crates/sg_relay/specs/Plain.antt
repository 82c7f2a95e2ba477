-- A relay whose calls aren't joined: its deeds are the events of its lines, its ticks and the datagrams that come.
use Rattle.std.specs.Prelude.{ℕ, Bool, List, map, Option, Some, None}
use Rattle.sg_base.specs.declared.addresses.Address.{Address}
use Rattle.sg_front.specs.States.{State, state_after, told_from}
use Rattle.sg_gateway.specs.Drawn.{Supplied, supplied}
use Rattle.sg_gateway.specs.Events.{events_of}
use Rattle.sg_gateway.specs.Runs.{world_after}
use Rattle.sg_gateway.specs.Step.{Event}
use Rattle.sg_gateway.specs.World.{World, empty}
use Rattle.sg_lines.specs.LineOf.{line_of, version_after}
use Rattle.sg_lines.specs.declared.lines.Line.{Line}
use Rattle.sg_lines.specs.declared.lines.Line.TheVariants as lines
use Rattle.sg_lines.specs.declared.lines.Signal.TheVariants.{Tick}
use Rattle.sg_mux.specs.Via.{events_in, outcomes_in}
use Rattle.sg_relay.specs.Acting.{Acting}
use Rattle.sg_relay.specs.Asked.{Act, act_of}
use Rattle.sg_relay.specs.Weaving.{Weaves, weaves_of}
use Rattle.sg_trace.specs.Course.{Given}

-- a relay waits at a `tick` line
abbrev pub waits : Line → Option ℕ
waits (lines.Signal (Tick t)) = Some t
waits other = None

-- a relay, whose moments are those of its clock, leaves out that of a datagram
abbrev pub untimed : Line → Line
untimed (lines.DatagramAt now port from octets) = lines.Datagram port from octets
untimed other = other

-- what a line gives that has its noise, by what its events give
abbrev pub given : {D : Type 0} → (List Event → List D) → Option Supplied → Option (Given D)
given deeds None = None
given deeds (Some s) = Some (record { deeds = deeds (events_of s.line); left = s.draws })

abbrev pub gives_by : {D : Type 0} → (List Event → List D) → Line → List ℕ → Option (Given D)
gives_by deeds l draws = given deeds (supplied draws (untimed l))

abbrev pub gives : Line → List ℕ → Option (Given Event)
gives l = gives_by (λ events. events) l

abbrev pub ticks : ℕ → List Event
ticks moment = events_of (lines.Signal (Tick moment))

abbrev pub arrives : ℕ → Address → List ℕ → List Event
arrives port from octets = events_of (lines.Datagram port from octets)

-- how its script is read
abbrev pub weaves : Weaves Line Event
weaves = weaves_of line_of version_after waits gives ticks arrives

-- what is done for events from a state on
abbrev pub acting : Acting State Event
acting = record { acts = λ s events. map act_of (told_from s events); after = state_after }

-- what is done for events, where legs may share their ports, or may not, and the world after them
abbrev pub acts : Bool → List Event → List Act
acts muxes events = map act_of (outcomes_in muxes events)

abbrev pub world : Bool → List Event → World
world muxes events = world_after empty (events_in muxes events)
