-- A pad's used octets, lent to be edited in place.
use Rattle.std.specs.Prelude.{ℕ, List, length}
use Rattle.std.specs.List.{refill}
use Rattle.std.specs.Borrow.{Lends, MutBor, Fml, Array, u8}
use Rattle.sg_base.specs.contracts.pad.Pad.{the_row}

-- The pad ends with what is written through r; the number of its used octets stays.
abbrev pub LendsOctets : MutBor (List ℕ) → MutBor (List ℕ) → Fml
LendsOctets pad r = Lends the_row (Array u8 0) pad r (refill (length pad.now) pad.now)
