-- Until when ticks change nothing.
use Rattle.std.specs.Prelude.{◌⊎◌, ℕ, ◌+◌, ◌≤◌}
use Rattle.std.specs.List.{AllByRecursion}
use Rattle.sg_call.specs.Values.{CallValue}
use Rattle.sg_table.specs.Values.{TableValue}

-- Before a moment no tick ends a call of this moment, nor drops anything of it: not yet, or it has been dropped at the last
-- moment.
pub record Rests (until last moment replaced : ℕ) : Type 0 where
  pub awake : until ≤ moment + 60000
  pub kept : (until ≤ replaced + 2000) ⊎ (replaced + 2000 ≤ last)

-- the same of a call as it is shown
abbrev pub CallRests : ℕ → ℕ → CallValue → Type 0
CallRests until last c = Rests until last c.moment c.replaced

-- no tick before this moment changes a call, nor does one after a packet is put out
pub record IsCalm (until : ℕ) (table : TableValue) : Type 0 where
  pub soon : until ≤ table.moment + 60000
  pub calls : AllByRecursion (CallRests until table.moment) table.calls
