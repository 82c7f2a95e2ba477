-- Scripts in the grammar.
use Rattle.std.specs.Prelude.{◌≡◌, ℕ, ◌+◌, if◌then◌else◌, List, [], ◌∷◌, length, Option, Some, None, Result, Ok, Err}
use Rattle.sg_base.specs.declared.faults.ScriptFault.{ScriptFault}
use Rattle.sg_lines.specs.LineOf.{version_after}
use Rattle.sg_lines.specs.ScriptLines.{lines_of}
use Rattle.sg_lines.specs.declared.lines.Line.{Line}
use Rattle.sg_trace.specs.Trace.{Command, Replays, begins_capture, line_at}

abbrev pub fault_after : ℕ → ℕ → Result Line ScriptFault → (ℕ → Option (ℕ × ScriptFault)) → Option (ℕ × ScriptFault)
fault_after version n (Err fault) later = Some (n, fault)
fault_after version n (Ok l) later = later (version_after version l)

-- the first line outside the grammar with its fault, of those from the n-th on, which begin at this offset, in a
-- script of that version
abbrev pub fault_from : Command → ℕ → ℕ → ℕ → List (List ℕ) → Option (ℕ × ScriptFault)
fault_from k version n at [] = None
fault_from k version n at (l ∷ ls) =
    if begins_capture k n at l then None
    else fault_after version n (line_at version n at l) (λ v. fault_from k v (n + 1) (at + length l) ls)

abbrev pub fault_in : Command → List ℕ → Option (ℕ × ScriptFault)
fault_in k octets = fault_from k 1 1 0 (lines_of octets)

-- The octets are a script: each line is in the grammar, and the last one ends.
abbrev pub IsScript : List ℕ → Type 0
IsScript octets = fault_in Replays octets ≡ None
