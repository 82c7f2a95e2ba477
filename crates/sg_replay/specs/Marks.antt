-- What a `Seen` shows.
use Rattle.std.specs.Prelude.{ℕ, ◌+◌, ◌-◌, List, [], Option, Some, None}
use Rattle.std.specs.List.{filter, range_with_len}
use Rattle.sg_replay.specs.Row.{mark_of}

-- the window's length, the highest index that was marked, and the marked indices inside the window
pub record Marks : Type 0 where
  pub window : ℕ
  pub highest : Option ℕ
  pub inside : List ℕ

-- The indices inside the window, from its lowest to the highest, that a row marks.
unfoldable pub marks_inside : ℕ → Option ℕ → List ℕ → List ℕ
marks_inside window None row = []
marks_inside window (Some h) row =
    let lowest = h + 1 - window in
    filter (mark_of row) (range_with_len lowest (h + 1 - lowest))
