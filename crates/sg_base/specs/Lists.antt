-- A list's values, lent to be edited in place.
use Rattle.std.specs.Prelude.{List, length}
use Rattle.std.specs.List.{refill}
use Rattle.std.specs.Borrow.{Lends, MutBor, Fml, Array, RattleType}
use Rattle.sg_base.specs.contracts.items.Items.{the_row}

-- The list ends with what is written through r; the number of its values stays.
abbrev pub LendsItems : (T : RattleType) → MutBor (List T.Denot) → MutBor (List T.Denot) → Fml
LendsItems T list r = Lends (the_row T) (Array T 0) list r (refill (length list.now) list.now)
