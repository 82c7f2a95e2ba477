-- What a stream shows.
use Rattle.std.specs.Prelude.{◌≡◌, ℕ, List, Option}
use Rattle.sg_base.specs.declared.addresses.Kind.{Kind}
use Rattle.sg_replay.specs.Freshness.{highest_of}
use Rattle.sg_replay.specs.Marks.{Marks}
use Rattle.sg_replay.specs.Seen.{StandsFor}

-- the kind, the source, the starting rollover, the highest index and the marks of the replay list
pub record StreamValue : Type 0 where
  pub kind : Kind
  pub ssrc : ℕ
  pub roc : ℕ
  pub highest : Option ℕ
  pub seen : Marks

-- the highest index and the marks are those of one list
pub record StandsForSome (highest : Option ℕ) (seen : Marks) : Type 0 where
  pub window : ℕ
  pub indices : List ℕ
  pub same_highest : highest ≡ highest_of indices
  pub same_seen : StandsFor seen window indices
