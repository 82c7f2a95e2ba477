-- What the parts of a bridge leave, one by one.
use Rattle.std.specs.Prelude.{ℕ, List, [], Result, OnOk}
use Rattle.std.specs.List.{flat_map}
use Rattle.sg_bridge.specs.Bridge.{gives}
use Rattle.sg_edge.specs.Links.{Added}
use Rattle.sg_edge.specs.Told.{Tally, Wrote}
use Rattle.sg_pairs.specs.BridgeText.{bridge_outcome_line}
use Rattle.sg_pairs.specs.Bridged.{Said}
use Rattle.sg_pairs.specs.declared.lines.BridgeLine.{BridgeLine}
use Rattle.sg_switchboard.specs.Switching.{StandsFor, State, SwitchboardValue, state_after, told_from}
use Rattle.sg_trace.specs.Loop.{Effects, IsPlayed}
use Rattle.sg_trace.specs.Output.{IsWritten}
use Rattle.sg_trace.specs.declared.status.Status.{Status}

-- what it tells from a state on, as it is written
abbrev pub text_from : State → List Said → List ℕ
text_from s said = flat_map bridge_outcome_line (told_from s said)

abbrev pub effects : Effects State Said
effects = record { tells = text_from; after = state_after }

-- What it tells was written, and the switchboard stands for the state behind it; or a prefix of it was written.
abbrev pub AreDone : Result (Unit {0}) Status → State → List Said → SwitchboardValue → Tally → Tally → Type 0
AreDone result s said board written written' =
    IsWritten result written written' (text_from s said) × OnOk result (StandsFor board (state_after s said))

-- what a line leaves, which is played at once
abbrev pub IsLinePlayed : Result (Unit {0}) Status → BridgeLine → State → SwitchboardValue → Tally → Tally → Tally → Tally → Type 0
IsLinePlayed result l s board drawn drawn' written written' = (draws out : List ℕ)
    × Added drawn drawn' draws × Wrote written written' out × IsPlayed result effects (gives l) 2 s [] [] (StandsFor board) draws out
