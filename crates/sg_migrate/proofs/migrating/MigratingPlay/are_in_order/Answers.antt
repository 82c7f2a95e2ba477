use Rattle.sg_migrate.proofs.Migrations.{in_order}
use Rattle.sg_migrate.proofs.migrating.MigratingPlay.are_in_order.Goals as goal

pub returns : goal.returns
returns g c = in_order
