-- What a migration answers, and what has passed between it and the outside by then.
use Rattle.std.specs.Prelude.{◌≡◌, ◌⊎◌, ℕ, true, List, [], Some}
use Rattle.sg_edge.specs.Told.{Tally, telling}
use Rattle.sg_migrate.specs.Migrated.{of_migration, written_of}
use Rattle.sg_trace.specs.Course.{course}
use Rattle.sg_trace.specs.Loop.{IsRun, Tellings}
use Rattle.sg_trace.specs.Trace.{AtEnd as BehindAll}
use Rattle.sg_trace.specs.declared.status.Status.{Status}
use Rattle.sg_trace.specs.declared.status.Status.TheVariants.{Done, NoMemory, Noise}

-- what a source and a sink tell
pub record MigrationTellings : Type 0 where
  pub left : Tally
  pub written : Tally

-- and a source of noise that gives none
abbrev pub undrawn : MigrationTellings → Tellings
undrawn o = record { left = o.left; written = o.written; drawn = telling [] 0 }

-- The migration read these octets and wrote those, as every loop does that plays each line at once, and drew none. A line gives its
-- own text.
pub record IsMigration (status : Status) (old new : MigrationTellings) (octets out : List ℕ) : Type 0 where
  pub run : IsRun of_migration (written_of 0) 1 true status (undrawn old) (undrawn new) octets [] out
  pub quiet : ¬ (status ≡ Noise)

-- Where the source's octets are a script of version 1, the migration writes it to its end, or memory runs out.
abbrev pub IsCompleteMigration : Status → Tally → Tally → Type 0
IsCompleteMigration status left left' = (all rest : List ℕ) → left.told ≡ Some all → left'.told ≡ Some rest → (course of_migration all []).stop ≡ BehindAll → (status ≡ Done) ⊎ (status ≡ NoMemory)
