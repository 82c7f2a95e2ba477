-- A relay whose calls may be joined: its deeds are what its lines say, its ticks and the datagrams that come, and what is told of
-- them is a bridge's.
use Rattle.std.specs.Prelude.{ℕ, List, [], ◌∷◌, map, Option, Some, None}
use Rattle.sg_base.specs.declared.addresses.Address.{Address}
use Rattle.sg_gateway.specs.Runs.{world_after}
use Rattle.sg_gateway.specs.Step.{Event}
use Rattle.sg_gateway.specs.World.{World, empty}
use Rattle.sg_outcome.specs.declared.outcomes.Outcome.{Outcome}
use Rattle.sg_pairs.specs.BridgeLines.{bridge_line_of, bridge_version_after}
use Rattle.sg_pairs.specs.BridgeText.{bridge_outcome_line}
use Rattle.sg_pairs.specs.Bridged.{Said, Happens, Joins, Parts, bridged_events, bridged_outcomes}
use Rattle.sg_pairs.specs.Pairs.{Members}
use Rattle.sg_pairs.specs.declared.lines.BridgeLine.{BridgeLine}
use Rattle.sg_pairs.specs.declared.lines.BridgeLine.TheVariants as lines
use Rattle.sg_pairs.specs.declared.outcomes.BridgeOutcome.{BridgeOutcome}
use Rattle.sg_pairs.specs.declared.outcomes.BridgeOutcome.TheVariants as tells
use Rattle.sg_relay.specs.Acting.{Acting}
use Rattle.sg_relay.specs.Asked.{Act, Tells, act_of}
use Rattle.sg_relay.specs.Plain as plain
use Rattle.sg_relay.specs.Weaving.{Weaves, weaves_of}
use Rattle.sg_switchboard.specs.Switching.{State, state_after, told_from, told_next}
use Rattle.sg_trace.specs.Course.{Given}

-- ---- what its lines, its ticks and its datagrams say

-- a relay waits at a `tick` line
abbrev pub waits : BridgeLine → Option ℕ
waits (lines.Script l) = plain.waits l
waits other = None

-- each of these events happens
abbrev pub happen_all : List Event → List Said
happen_all events = map Happens events

abbrev pub gives : BridgeLine → List ℕ → Option (Given Said)
gives (lines.Script l) draws = plain.gives_by happen_all l draws
gives (lines.Join first second) draws = Some (record { deeds = Joins first second ∷ []; left = draws })
gives (lines.Part call) draws = Some (record { deeds = Parts call ∷ []; left = draws })

abbrev pub ticks : ℕ → List Said
ticks moment = happen_all (plain.ticks moment)

abbrev pub arrives : ℕ → Address → List ℕ → List Said
arrives port from octets = happen_all (plain.arrives port from octets)

-- how its script is read
abbrev pub weaves : Weaves BridgeLine Said
weaves = weaves_of bridge_line_of bridge_version_after waits gives ticks arrives

-- ---- what is done for what a bridge tells

-- what the table tells is done as ever, and of all else its line is written
abbrev pub act_of_bridge : BridgeOutcome → Act
act_of_bridge (tells.Table o) = act_of o
act_of_bridge other = Tells [] (bridge_outcome_line other)

abbrev pub acts_of_all : List BridgeOutcome → List Act
acts_of_all told = map act_of_bridge told

-- of an outcome of the table, and of the pair that it parts
abbrev pub acts_next : Members → Outcome → List Act
acts_next calls o = acts_of_all (told_next calls o)

-- what is done from a state on
abbrev pub acting : Acting State Said
acting = record { acts = λ s said. acts_of_all (told_from s said); after = state_after }

-- what is done for all that is said, and the world of the calls behind it
abbrev pub acts : List Said → List Act
acts said = acts_of_all (bridged_outcomes said)

abbrev pub world : List Said → World
world said = world_after empty (bridged_events said)
