-- What reading the next line of a script gives.
use Rattle.std.specs.Prelude.{◌≡◌, ◌⊎◌, ◌<◌, ◌≤◌, ◌+◌, ◌^◌, ℕ, List, [], ◌∷◌, ◌++◌, length, Option, Some, None, Result, Ok, Err, ⊤}
use Rattle.sg_base.specs.declared.faults.ScriptFault.{ScriptFault}
use Rattle.sg_base.specs.declared.faults.ScriptFault.TheVariants.{Length, Unended}
use Rattle.sg_edge.specs.Told.{AtEnd, Tally}
use Rattle.sg_lines.specs.declared.faults.ReadLineFault.{ReadLineFault}
use Rattle.sg_lines.specs.declared.faults.ReadLineFault.TheVariants as faults
use Rattle.sg_lines.specs.ScriptLines.{IsWhole, NoEnd, lines_of}
use Rattle.sg_trace.specs.Trace.{Spelling, spelled_at}
use Rattle.sg_trace.specs.declared.status.Status.{Status}
use Rattle.sg_trace.specs.declared.status.Status.TheVariants.{Script, Read, NoMemory}

-- how far a script is read: what waits, its version, the number of the next line, its offset, and how many octets
-- may still be asked for
pub record Reading : Type 0 where
  pub waits : List ℕ
  pub version : ℕ
  pub number : ℕ
  pub offset : ℕ
  pub budget : ℕ

-- ---- lines of a kind, by how they are spelled, and of which version the lines behind them are

-- No line is spelled without its end, and what is too long is told so first.
pub record IsFramed {L : Type 0} (spelled : Spelling L) : Type 0 where
  pub too_long : (version n : ℕ) (octets : List ℕ) → 70000 < length octets → spelled version n octets ≡ Err Length
  pub without_end : (version n : ℕ) (octets : List ℕ) → NoEnd octets → length octets ≤ 70000 → spelled version n octets ≡ Err Unended
  pub with_end : (version n : ℕ) (octets : List ℕ) → IsWhole octets → ¬ (spelled version n octets ≡ Err Unended)

-- The first of the lines of these octets, the n-th of a script of that version, is outside the grammar.
pub record FirstFailsBy {L : Type 0} (spelled : Spelling L) (version n at : ℕ) (octets : List ℕ) (fault : ScriptFault) : Type 0 where
  pub line : List ℕ
  pub others : List (List ℕ)
  pub split : lines_of octets ≡ line ∷ others
  pub fails : spelled_at spelled version n at line ≡ Err fault

-- It is so whatever would come behind; that its end is missing is told only at the source's end.
pub record IsFaultBy {L : Type 0} (spelled : Spelling L) (version n at : ℕ) (octets : List ℕ) (fault : ScriptFault) (left : Tally) : Type 0 where
  pub first : FirstFailsBy spelled version n at octets fault
  pub ended : fault ≡ Unended → AtEnd left
  pub still : ¬ (fault ≡ Unended) → (more : List ℕ) → FirstFailsBy spelled version n at (octets ++ more) fault

-- A whole line was read.
pub record IsReadBy {L : Type 0} (spelled : Spelling L) (followed : ℕ → L → ℕ) (l : L) (old new : Reading) (got : List ℕ) : Type 0 where
  pub line : List ℕ
  pub split : old.waits ++ got ≡ line ++ new.waits
  pub whole : IsWhole line
  pub is : spelled_at spelled old.version old.number old.offset line ≡ Ok l
  pub version : new.version ≡ followed old.version l
  pub number : new.number ≡ old.number + 1
  pub offset : new.offset ≡ old.offset + length line
  pub within : new.offset ≤ 2 ^ 30

-- The next line; none at the end, or where the octets that count are behind; or the fault of the line. Where the source
-- failed, what was read since the last line has no line end.
abbrev pub IsNextBy : {L : Type 0} → Spelling L → (ℕ → L → ℕ) → Result (Option L) Status → Reading → Reading → List ℕ → Tally → Type 0
IsNextBy spelled followed (Ok (Some l)) old new got left = IsReadBy spelled followed l old new got
IsNextBy spelled followed (Ok None) old new got left = (old.waits ++ got ≡ []) × (AtEnd left ⊎ (2 ^ 30 < old.offset))
IsNextBy spelled followed (Err (Script n fault)) old new got left = (n ≡ old.number) × IsFaultBy spelled old.version n old.offset (old.waits ++ got) fault left
IsNextBy spelled followed (Err Read) old new got left = NoEnd (old.waits ++ got)
IsNextBy spelled followed (Err NoMemory) old new got left = ⊤
IsNextBy spelled followed (Err other) old new got left = ⊥

-- ---- faults of lines

-- why the n-th line isn't read
abbrev pub refused_as : ℕ → ReadLineFault → Status
refused_as n faults.NoMemory = NoMemory
refused_as n (faults.Script fault) = Script n fault
