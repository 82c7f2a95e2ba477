-- What a migration writes: the script of version 2 of what it read.
use Rattle.std.specs.Prelude.{◌≡◌, ◌⊎◌, ◌≤◌, ℕ, List, [], ◌++◌, length}
use Rattle.sg_base.specs.declared.faults.ScriptFault.{ScriptFault}
use Rattle.sg_lines.specs.ScriptLines.{IsWhole, NoEnd}
use Rattle.sg_migrate.specs.Migrated.{migrated}
use Rattle.sg_trace.specs.Output.{IsPrefixOf}
use Rattle.sg_trace.specs.declared.status.Status.{Status}
use Rattle.sg_trace.specs.declared.status.Status.TheVariants.{Done, Read, Script}

pub record WritesMigrated (status : Status) (octets out : List ℕ) : Type 0 where
  -- where it is done, that of all; where a line is outside the grammar, that of the lines before
  pub done : status ≡ Done → out ≡ migrated octets
  pub fault : (n : ℕ) (fault : ScriptFault) → status ≡ Script n fault → out ≡ migrated octets
  -- where the source failed, that of all whole lines
  pub read : status ≡ Read → (whole part : List ℕ) × (octets ≡ whole ++ part) × NoEnd part × (out ≡ migrated whole)
  -- however it ends, that of lines, and of one more line a prefix; behind them are a line and what the buffer holds, at most
  pub lines : List ℕ
  pub line : List ℕ
  pub ahead : List ℕ
  pub split : octets ≡ lines ++ (line ++ ahead)
  pub one : IsWhole line ⊎ (line ≡ [])
  pub near : length (line ++ ahead) ≤ 74097
  pub begun : IsPrefixOf (migrated lines) out
  pub within : IsPrefixOf out (migrated (lines ++ line))
