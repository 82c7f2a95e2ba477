-- A run whose legs may share their ports: its events as they come to the table, and what it tells.
use Rattle.std.specs.Prelude.{ℕ, Bool, true, false, List, [], ◌∷◌, map, Option}
use Rattle.std.specs.List.{flat_map}
use Rattle.sg_gateway.specs.Datagrams.{Happening}
use Rattle.sg_gateway.specs.Runs.{outcomes, turn_of}
use Rattle.sg_gateway.specs.Step.{Event, Signalled, Datagram, step}
use Rattle.sg_gateway.specs.World.{World, empty}
use Rattle.sg_outcome.specs.declared.outcomes.Outcome.{Outcome}
use Rattle.sg_outcome.specs.declared.outcomes.Outcome.TheVariants.{Made, Live, Sdp, Refused, Ended, Out, Dropped, Unsent}
use Rattle.sg_passages.specs.Passages.{Leaves, Passage, out_by, plain_passages, straight}
use Rattle.sg_mux.specs.Legs.{arrived_port, leaves}
use Rattle.sg_mux.specs.Muxed.{Muxing, nobody, signalled}
use Rattle.sg_mux.specs.declared.known.Known.{Known}

-- ---- one event

-- the event as it comes to the table
abbrev pub via : List (Option Known) → Event → Event
via calls (Signalled signal) = Signalled signal
via calls (Datagram port from octets) = Datagram (arrived_port calls port octets.items) from octets

-- an outcome of a datagram that arrived at this port, as it is told
abbrev pub told_at : List (Option Known) → ℕ → Outcome → Outcome
told_at calls port (Out p to octets) = out_by (leaves calls) p to octets
told_at calls port (Dropped p cause) = Dropped port cause
told_at calls port (Made id slot media) = Made id slot media
told_at calls port (Live id) = Live id
told_at calls port (Sdp id side text) = Sdp id side text
told_at calls port (Refused id cause) = Refused id cause
told_at calls port (Ended id slot media why) = Ended id slot media why
told_at calls port (Unsent p to) = Unsent p to

-- what is known after an event of which the table told these outcomes, and what is told in their place
abbrev pub muxing_at : List (Option Known) → Event → List Outcome → Muxing
muxing_at calls (Signalled signal) told = signalled signal calls told
muxing_at calls (Datagram port from octets) told = record { calls = calls; told = map (told_at calls port) told }

-- by which ports what it puts out leaves; a signal puts nothing out
abbrev pub leaves_at : List (Option Known) → Event → Leaves
leaves_at calls (Signalled signal) = straight
leaves_at calls (Datagram port from octets) = leaves calls

-- what it gives at the table
abbrev pub stepped : World → List (Option Known) → Event → Happening
stepped w calls e = step w (via calls e)

abbrev pub muxing_after : World → List (Option Known) → Event → Muxing
muxing_after w calls e = muxing_at calls e (stepped w calls e).outcomes

abbrev pub passage_at : World → List (Option Known) → Event → Passage
passage_at w calls e = record { turn = turn_of w (via calls e); leaves = leaves_at calls e; told = (muxing_after w calls e).told }

-- ---- a run

abbrev pub events_from : World → List (Option Known) → List Event → List Event
events_from w calls [] = []
events_from w calls (e ∷ es) = via calls e ∷ events_from (stepped w calls e).world (muxing_after w calls e).calls es

abbrev pub passages_from : World → List (Option Known) → List Event → List Passage
passages_from w calls [] = []
passages_from w calls (e ∷ es) = passage_at w calls e ∷ passages_from (stepped w calls e).world (muxing_after w calls e).calls es

-- A run's events as they come to the table, and its passages.
abbrev pub events_via : List Event → List Event
events_via events = events_from empty nobody events

abbrev pub passages_via : List Event → List Passage
passages_via events = passages_from empty nobody events

-- ---- the same of a run whose legs may share ports, or may not

abbrev pub events_in : Bool → List Event → List Event
events_in false events = events
events_in true events = events_via events

abbrev pub passages_in : Bool → List Event → List Passage
passages_in false events = plain_passages events
passages_in true events = passages_via events

abbrev pub outcomes_in : Bool → List Event → List Outcome
outcomes_in false events = outcomes events
outcomes_in true events = flat_map (λ p. p.told) (passages_via events)
