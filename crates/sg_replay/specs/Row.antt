-- A row of 1,024 bits in words of 64, which keeps the mark of an index at its place modulo 1,024.
use Rattle.std.specs.Prelude.{◌≡◌, ◌≢◌, ℕ, ◌+◌, ◌/◌, ◌%◌, ◌<◌, ◌≤◌, Bool, false, ◌==◌, nat_lt, if◌then◌else◌, List, slice_index, Option, Some, None}
use Rattle.std.specs.Int.{bit_at}

unfoldable pub bit_in : List ℕ → ℕ → Bool
bit_in row k = bit_at (slice_index row (k / 64)) (k % 64) == 1

-- the mark of an index
abbrev pub mark_of : List ℕ → ℕ → Bool
mark_of row i = bit_in row (i % 1024)

-- the mark of an index, where none above the highest counts
abbrev pub mark_up_to : Option ℕ → List ℕ → ℕ → Bool
mark_up_to None row i = false
mark_up_to (Some h) row i = if nat_lt h i then false else mark_of row i

-- Up to `top` and a row's length back, a row has the marks of the row before, where none above the highest counted.
abbrev pub KeepsUpTo : ℕ → Option ℕ → List ℕ → List ℕ → Type 0
KeepsUpTo top highest old new =
    (i : ℕ) → top < i + 1024 → i ≤ top → mark_of new i ≡ mark_up_to highest old i

-- The same but for one index.
abbrev pub KeepsOthersUpTo : ℕ → Option ℕ → ℕ → List ℕ → List ℕ → Type 0
KeepsOthersUpTo top highest index old new =
    (i : ℕ) → top < i + 1024 → i ≤ top → i ≢ index → mark_of new i ≡ mark_up_to highest old i
