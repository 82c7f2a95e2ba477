-- The adapters of the system's readers and writers, as their callers see them.
use Rattle.std.specs.Prelude.{ℕ, List, Option}

-- what a reader will give, where that is known, how many octets it gave, and how often it failed
pub record ReadStream : Type 0 where
  pub remaining : Option (List ℕ)
  pub given : ℕ
  pub faults : ℕ

-- what a writer holds, where that is known, how many octets it took, and how often it failed
pub record WriteStream : Type 0 where
  pub contents : Option (List ℕ)
  pub taken : ℕ
  pub faults : ℕ

-- a reader of which nothing was asked
abbrev pub unread : Option (List ℕ) → ReadStream
unread remaining = record { remaining = remaining; given = 0; faults = 0 }

-- a writer of which nothing was asked
abbrev pub unwritten : Option (List ℕ) → WriteStream
unwritten contents = record { contents = contents; taken = 0; faults = 0 }
