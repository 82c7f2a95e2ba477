-- What a read buffer and a line reader give.
use Rattle.std.specs.Prelude.{◌≡◌, ◌⊎◌, ◌<◌, ◌≤◌, ℕ, Bool, true, false, List, [], ◌++◌, length, Result, Ok, Err}
use Rattle.sg_lines.specs.ScriptLines.{NoEnd, IsWhole}
use Rattle.sg_edge.specs.Told.{AtEnd, Tally}

-- a whole line is at the front
abbrev pub HoldsLine : List ℕ → Type 0
HoldsLine waits = (line rest : List ℕ) × (waits ≡ line ++ rest) × IsWhole line

-- The part was at the front of what waited, and stands behind what the line had.
abbrev pub MovesPart : List ℕ → List ℕ → List ℕ → List ℕ → List ℕ → Type 0
MovesPart waited waits had has part = (waited ≡ part ++ waits) × (has ≡ had ++ part)

-- The part ends with its only line end; or has none, and nothing waits or as many octets as may be were moved.
abbrev pub EndsLine : Bool → List ℕ → List ℕ → ℕ → Type 0
EndsLine true part waits most = IsWhole part
EndsLine false part waits most = NoEnd part × ((waits ≡ []) ⊎ (length part ≡ most))

-- All that waited was moved, or as much as may be.
abbrev pub HasMoved : List ℕ → List ℕ → ℕ → Type 0
HasMoved part waits most = (length part ≤ most) × ((waits ≡ []) ⊎ (length part ≡ most))

-- a line: whole, or unended at the end of the source or of the budget, or too long
abbrev pub IsLine : List ℕ → List ℕ → Tally → ℕ → Type 0
IsLine line rest left budget =
    IsWhole line ⊎ (NoEnd line × (0 < length line) × (((rest ≡ []) × (AtEnd left ⊎ (budget ≡ 0))) ⊎ (70000 < length line)))

-- The line was at the front of what waited and what came, or its part that was moved by then; none is given only at
-- the end.
abbrev pub GivesLine : {E : Type 0} → Result Bool E → List ℕ → List ℕ → List ℕ → List ℕ → Tally → ℕ → Type 0
GivesLine (Ok true) line old new got left budget = (old ++ got ≡ line ++ new) × IsLine line new left budget
GivesLine (Ok false) line old new got left budget = (old ++ got ≡ []) × (line ≡ []) × (new ≡ []) × (AtEnd left ⊎ (budget ≡ 0))
GivesLine (Err e) line old new got left budget = old ++ got ≡ line ++ new
