-- A script of which no line joins or parts is played by a bridge as by a replay.
use Rattle.std.specs.Prelude.{◌≡◌, ℕ, List, ◌∷◌, codes, map}
use Rattle.std.specs.List.{All}
use Rattle.sg_bridge.specs.Bridge.{bridge_text, bridge_trace}
use Rattle.sg_gateway.specs.Runs.{outcomes}
use Rattle.sg_lines.specs.LineOf.{body_of, fields_of}
use Rattle.sg_lines.specs.ScriptLines.{lines_of}
use Rattle.sg_pairs.specs.Bridged.{Happens, bridged_events, bridged_outcomes}
use Rattle.sg_pairs.specs.declared.outcomes.BridgeOutcome.TheVariants as tells
use Rattle.sg_trace.specs.Output.{output}
use Rattle.sg_trace.specs.Trace.{replayed}

-- the line's first field is this word
abbrev pub BeginsWith : List ℕ → List ℕ → Type 0
BeginsWith word line = (rest : List (List ℕ)) × (fields_of (body_of line) ≡ word ∷ rest)

abbrev pub JoinsNone : List ℕ → Type 0
JoinsNone octets = All (λ line. ¬ BeginsWith (codes "join") line × ¬ BeginsWith (codes "part") line) (lines_of octets)

-- It says the replay's events, ends where a replay ends, leaves of what was drawn what a replay leaves, and tells and writes
-- what a replay does.
pub record IsPlayedAlike (octets draws : List ℕ) : Type 0 where
  pub said : (bridge_trace octets draws).deeds ≡ map Happens (replayed octets draws).events
  pub stop : (bridge_trace octets draws).stop ≡ (replayed octets draws).stop
  pub left : (bridge_trace octets draws).left ≡ (replayed octets draws).left.draws
  pub events : bridged_events (bridge_trace octets draws).deeds ≡ (replayed octets draws).events
  pub told : bridged_outcomes (bridge_trace octets draws).deeds ≡ map tells.Table (outcomes (replayed octets draws).events)
  pub text : bridge_text (bridge_trace octets draws).deeds ≡ output (replayed octets draws).events
