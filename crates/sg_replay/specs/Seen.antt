-- What a `Seen` says of the list of all indices that were done.
use Rattle.std.specs.Prelude.{◌≡◌, ℕ, false, if◌then◌else◌, List}
use Rattle.sg_replay.specs.declared.seen.Freshness.{Freshness}
use Rattle.sg_replay.specs.declared.seen.Freshness.TheVariants.{New, Repeat, TooOld}
use Rattle.sg_replay.specs.Freshness.{highest_of, is_behind, is_in}
use Rattle.sg_replay.specs.Marks.{Marks}

-- how an index stands to the marks
abbrev pub freshness_at : Marks → ℕ → Freshness
freshness_at seen i =
    if is_behind seen.window seen.highest i then TooOld
    else if is_in seen.inside i then Repeat
    else New

-- A `Seen` stands for a list where its highest is the list's, which an empty list alone lacks, and inside
-- the window an index is marked exactly where it is in the list.
pub record StandsFor (seen : Marks) (window : ℕ) (done : List ℕ) : Type 0 where
  pub same_window : seen.window ≡ window
  pub same_highest : seen.highest ≡ highest_of done
  pub same_inside : (i : ℕ) → is_behind window (highest_of done) i ≡ false → is_in seen.inside i ≡ is_in done i
