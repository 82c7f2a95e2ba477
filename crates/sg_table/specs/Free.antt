-- The lowest free slot.
use Rattle.std.specs.Prelude.{ℕ, ◌+◌, ◌==◌, if◌then◌else◌, List, [], ◌∷◌}
use Rattle.sg_table.specs.Values.{Shape}

-- the lowest slot from n on that none of these has; they stand by rising slot
abbrev pub free_shape : ℕ → List Shape → ℕ
free_shape n [] = n
free_shape n (s ∷ ss) = if s.slot == n then free_shape (n + 1) ss else n
