use Rattle.sg_run.proofs.MigrationWrites.{writes_migrated}
use Rattle.sg_run.proofs.laws.migrations_write_what_is_migrated.Goals as goal

pub returns : goal.returns
returns c = writes_migrated
