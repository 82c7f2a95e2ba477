-- What a line says of a script behind which a capture may stand, and what it gives.
use Rattle.std.specs.Prelude.{ℕ, if◌then◌else◌, Option, None, Some, Result, Ok, Err, ⊤, is_none}
use Rattle.sg_base.specs.declared.faults.ScriptFault.{ScriptFault}
use Rattle.sg_capture.specs.declared.lines.CaptureLine.{CaptureLine}
use Rattle.sg_capture.specs.declared.lines.CaptureLine.TheVariants as lines
use Rattle.sg_gateway.specs.Step.{Event}
use Rattle.sg_lines.specs.LineOf.{line_of, version_after}
use Rattle.sg_lines.specs.LineText.{FitsLine}
use Rattle.sg_lines.specs.declared.lines.Line.{Line}
use Rattle.sg_playback.specs.Scripts.{gives_of}
use Rattle.sg_trace.specs.Course.{Ways}
use Rattle.sg_trace.specs.Loop.{ways_of}
use Rattle.sg_trace.specs.Trace.{Spelling, says_capture}

-- a line that a replay's script may have too
abbrev pub of_script : Result Line ScriptFault → Result CaptureLine ScriptFault
of_script (Ok l) = Ok (lines.Script l)
of_script (Err fault) = Err fault

-- the line of this number, from 1: from the second line on it may be `capture`
abbrev pub capture_line_of : Spelling CaptureLine
capture_line_of version n octets = if says_capture n octets then Ok lines.Capture else of_script (line_of version n octets)

-- the version of what follows a line
abbrev pub capture_version_after : ℕ → CaptureLine → ℕ
capture_version_after version (lines.Script l) = version_after version l
capture_version_after version lines.Capture = version

-- a script's line fits into its script
abbrev pub FitsCaptureLine : ℕ → ℕ → CaptureLine → Type 0
FitsCaptureLine version n (lines.Script l) = FitsLine version n l
FitsCaptureLine version n lines.Capture = ⊤

-- what a player plays of a line
abbrev pub script_line : CaptureLine → Option Line
script_line (lines.Script l) = Some l
script_line lines.Capture = None

-- how the script before a capture is read: a replay's, up to the line `capture`
abbrev pub of_capture : Ways CaptureLine Event
of_capture = ways_of capture_line_of capture_version_after (λ l. is_none (script_line l)) (λ l. gives_of (script_line l))
