-- The replay list and its window (RFC 3711, 3.3.2).
use Rattle.std.specs.Prelude.{ℕ, ◌+◌, Bool, false, ◌==◌, nat_le, if◌then◌else◌, List, [], ◌∷◌, Option, Some, None, max}
use Rattle.std.specs.List.{list_any}
use Rattle.sg_replay.specs.declared.seen.Freshness.{Freshness}
use Rattle.sg_replay.specs.declared.seen.Freshness.TheVariants.{New, Repeat, TooOld}

-- the greater of a number and, where there is one, another
abbrev pub highest_with : Option ℕ → ℕ → ℕ
highest_with None i = i
highest_with (Some h) i = max h i

-- the highest of a list, which an empty list doesn't have
abbrev pub highest_of : List ℕ → Option ℕ
highest_of [] = None
highest_of (x ∷ xs) = Some (highest_with (highest_of xs) x)

-- whether a list has an index
abbrev pub is_in : List ℕ → ℕ → Bool
is_in done i = list_any (λ x. x == i) done

-- An index is behind the window where the highest is the window's length or more ahead of it.
abbrev pub is_behind : ℕ → Option ℕ → ℕ → Bool
is_behind window None i = false
is_behind window (Some highest) i = nat_le (i + window) highest

-- How index i stands to the indices done: behind the window, done before, or new.
abbrev pub freshness : ℕ → List ℕ → ℕ → Freshness
freshness window done i =
    if is_behind window (highest_of done) i then TooOld
    else if is_in done i then Repeat
    else New
