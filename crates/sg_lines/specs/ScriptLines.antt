-- The lines of a script.
use Rattle.std.specs.Prelude.{◌≡◌, ◌≢◌, ℕ, List, [], ◌∷◌, ◌++◌, ◌==◌, if◌then◌else◌}
use Rattle.std.specs.List.{AllByRecursion}

-- an octet put before the first line, where the first line goes on
abbrev pub onto : ℕ → List (List ℕ) → List (List ℕ)
onto b [] = (b ∷ []) ∷ []
onto b (l ∷ ls) = (b ∷ l) ∷ ls

-- the lines, each with its line end; the last may have none
abbrev pub lines_of : List ℕ → List (List ℕ)
lines_of [] = []
lines_of (b ∷ bs) = if b == 10 then (b ∷ []) ∷ lines_of bs else onto b (lines_of bs)

-- no line end is in it
abbrev pub NoEnd : List ℕ → Type 0
NoEnd octets = AllByRecursion (λ b. b ≢ 10) octets

-- a line with its line end
abbrev pub IsWhole : List ℕ → Type 0
IsWhole line = (prefix : List ℕ) × (line ≡ prefix ++ 10 ∷ []) × NoEnd prefix
