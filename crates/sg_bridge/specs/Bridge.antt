-- What a bridge answers, and what has passed between it and the outside by then.
use Rattle.std.specs.Prelude.{map, ℕ, false, true, List, [], ◌∷◌, Option, Some, None}
use Rattle.std.specs.List.{flat_map}
use Rattle.sg_edge.specs.Told.{Tally}
use Rattle.sg_gateway.specs.Drawn.{Supplied, supplied}
use Rattle.sg_gateway.specs.Events.{events_of}
use Rattle.sg_pairs.specs.BridgeLines.{bridge_line_of, bridge_version_after}
use Rattle.sg_pairs.specs.BridgeText.{bridge_outcome_line}
use Rattle.sg_pairs.specs.Bridged.{Said, Happens, Joins, Parts, bridged_outcomes}
use Rattle.sg_pairs.specs.declared.lines.BridgeLine.{BridgeLine}
use Rattle.sg_pairs.specs.declared.lines.BridgeLine.TheVariants as lines
use Rattle.sg_trace.specs.Course.{Course, Given, Ways, course}
use Rattle.sg_trace.specs.Loop.{IsCompleteRun, IsRun, Tellings}
use Rattle.sg_trace.specs.declared.status.Status.{Status}

-- ---- the course of a bridge

-- each event of a script's line happens, once the line has its noise
abbrev pub happens_as : Option Supplied → Option (Given Said)
happens_as None = None
happens_as (Some s) = Some (record { deeds = map Happens (events_of s.line); left = s.draws })

-- what a line says
abbrev pub gives : BridgeLine → List ℕ → Option (Given Said)
gives (lines.Script l) draws = happens_as (supplied draws l)
gives (lines.Join first second) draws = Some (record { deeds = Joins first second ∷ []; left = draws })
gives (lines.Part call) draws = Some (record { deeds = Parts call ∷ []; left = draws })

-- how a bridge reads a script
abbrev pub of_bridge : Ways BridgeLine Said
of_bridge = record { spelled = bridge_line_of; followed = bridge_version_after; is_last = λ l. false; gives = gives }

-- what its lines say, where they end, and what of the octets drawn they leave
abbrev pub bridge_trace : List ℕ → List ℕ → Course Said
bridge_trace octets draws = course of_bridge octets draws

-- what is told of what the lines say
abbrev pub bridge_text : List Said → List ℕ
bridge_text said = flat_map bridge_outcome_line (bridged_outcomes said)

-- ---- how a run ends

-- The bridge read these octets, drew these, and wrote those, as every loop does that plays each line at once. A line says two things
-- at most, a tick and a datagram.
abbrev pub IsBridge : Status → Tellings → Tellings → List ℕ → List ℕ → List ℕ → Type 0
IsBridge status old new octets draws out = IsRun of_bridge bridge_text 2 true status old new octets draws out

-- Where the source's octets are a bridge's script, whatever is drawn, the bridge handles it to its end, or memory runs out.
abbrev pub IsCompleteBridge : Status → Tally → Tally → Type 0
IsCompleteBridge status left left' = IsCompleteRun of_bridge status left left'
