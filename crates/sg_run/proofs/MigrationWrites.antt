-- What a migration writes is the script of version 2 of what it read.
use Rattle.std.proofs.Common.{◌≡◌, ℕ, List, [], refl, subst}
use Rattle.sg_migrate.specs.Migrated.{of_migration, written_of}
use Rattle.sg_migrate.specs.Migration.{IsMigration, MigrationTellings}
use Rattle.sg_run.specs.Migrates.{WritesMigrated}
use Rattle.sg_trace.specs.Loop.{LoopEnds}
use Rattle.sg_trace.specs.declared.status.Status.{Status}
use Rattle.sg_trace.specs.declared.status.Status.TheVariants.{Done, Read, Script}

pub writes_migrated : (status : Status) (old new : MigrationTellings) (octets out : List ℕ) → IsMigration status old new octets out → WritesMigrated status octets out
writes_migrated status old new octets out is =
    let cut = is.run.at_once refl in record {
      done = λ at. (ends Done at).0.told;
      fault = λ n fault at. (ends (Script n fault) at).0.told;
      read = λ at. let told = ends Read at in (told.lines, told.part, told.split, told.unended, told.all.told);
      lines = cut.lines;
      line = cut.line;
      ahead = cut.ahead;
      split = cut.split;
      one = cut.one;
      near = cut.near;
      begun = cut.begun;
      within = cut.within;
    }
  where
    ends : (end : Status) → status ≡ end → LoopEnds of_migration (written_of 0) 1 end octets [] out new.left
    ends end at = subst (λ (s : Status). LoopEnds of_migration (written_of 0) 1 s octets [] out new.left) at is.run.ends
