-- The worlds that a table stands for.
use Rattle.std.specs.Prelude.{◌≡◌, List}
use Rattle.sg_call.specs.Settling.{BooksStandFor}
use Rattle.sg_call.specs.Standing.{CallStandsFor}
use Rattle.sg_gateway.specs.Runs.{world_after}
use Rattle.sg_gateway.specs.Step.{Event}
use Rattle.sg_gateway.specs.World.{World, empty}
use Rattle.sg_leg.specs.Pairs.{EachPair}
use Rattle.sg_table.specs.Values.{TableValue, AreQuiet}

-- the table's calls stand for the world's, one by one, and its books for the world's; no datagram waits
pub record Holds (table : TableValue) (w : World) : Type 0 where
  pub calls : EachPair (CallStandsFor w.books.pairs) table.calls w.calls
  pub books : BooksStandFor table.books w.books
  pub moment_is : w.moment ≡ table.moment
  pub quiet : AreQuiet table.calls

-- a table stands for a world of a run that it holds
pub record TableStandsFor (table : TableValue) (w : World) : Type 0 where
  pub history : List Event
  pub is_after : w ≡ world_after empty history
  pub holds : Holds table w

-- some world is the table's
abbrev pub Stands : TableValue → Type 0
Stands table = (w : World) × TableStandsFor table w
