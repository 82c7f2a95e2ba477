-- How long a link rests where nothing waits.
use Rattle.std.specs.Prelude.{◌*◌, ◌/◌, ◌==◌, ◌||◌, ℕ, min, nat_lt, if◌then◌else◌}

-- Microseconds from one rest to the next, where so many datagrams came in so many: the time in which 32 come, but
-- 800 at most, and none where they come farther apart than 250 microseconds.
abbrev pub period_of : (came micros : ℕ) → ℕ
period_of came micros = if (came == 0) || nat_lt (came * 250) micros then 0 else min 800 (micros * 32 / came)
