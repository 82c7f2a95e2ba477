-- What a line of a bridge's script says: its value, or its first fault.
use Rattle.std.specs.Prelude.{ℕ, Bool, List, [], ◌∷◌, length, not, Result, Ok, Err, nat_lt, ◌==◌, ◌||◌, if◌then◌else◌, codes}
use Rattle.std.specs.Str.{bytes_eq}
use Rattle.sg_base.specs.declared.ScriptFault.{ScriptFault}
use Rattle.sg_lines.specs.Fields.{◌>>=◌, call_from}
use Rattle.sg_lines.specs.LineOf.{body_of, fields_of, is_ended, line_of, version_after}
use Rattle.sg_lines.specs.LineText.{FitsLine}
use Rattle.sg_lines.specs.declared.lines.Line.{Line}
use Rattle.sg_pairs.specs.declared.lines.BridgeLine.{BridgeLine}
use Rattle.sg_pairs.specs.declared.lines.BridgeLine.TheVariants as lines

-- a line that a replay's script may have too
abbrev pub of_script : Result Line ScriptFault → Result BridgeLine ScriptFault
of_script (Ok l) = Ok (lines.Script l)
of_script (Err fault) = Err fault

unfoldable pub join_from : List ℕ → List ℕ → Result BridgeLine ScriptFault
join_from first second = do
  first ← call_from first
  second ← call_from second
  Ok (lines.Join first second)

unfoldable pub part_from : List ℕ → Result BridgeLine ScriptFault
part_from call = do
  call ← call_from call
  Ok (lines.Part call)

-- by its fields, the first one the word; other lines are those of a script
abbrev pub bridge_said_by : Result BridgeLine ScriptFault → List (List ℕ) → Result BridgeLine ScriptFault
bridge_said_by other (word ∷ a ∷ []) = if bytes_eq word (codes "part") then part_from a else other
bridge_said_by other (word ∷ a ∷ b ∷ []) = if bytes_eq word (codes "join") then join_from a b else other
bridge_said_by other fields = other

-- calls are joined and parted by whole lines of at most 70,000 octets, from the second line on
abbrev pub is_script_line : ℕ → List ℕ → Bool
is_script_line number octets = nat_lt 70000 (length octets) || not (is_ended octets) || number == 1

-- the line of that number, from 1, with its end, in a bridge's script of that version
unfoldable pub bridge_line_of : ℕ → ℕ → List ℕ → Result BridgeLine ScriptFault
bridge_line_of version number octets =
    if is_script_line number octets then of_script (line_of version number octets)
    else bridge_said_by (of_script (line_of version number octets)) (fields_of (body_of octets))

-- the version of what follows a line
abbrev pub bridge_version_after : ℕ → BridgeLine → ℕ
bridge_version_after version (lines.Script l) = version_after version l
bridge_version_after version (lines.Join first second) = version
bridge_version_after version (lines.Part call) = version

-- a script's line fits into its script
abbrev pub FitsBridgeLine : ℕ → ℕ → BridgeLine → Type 0
FitsBridgeLine version number (lines.Script l) = FitsLine version number l
FitsBridgeLine version number (lines.Join first second) = Unit {0}
FitsBridgeLine version number (lines.Part call) = Unit {0}
