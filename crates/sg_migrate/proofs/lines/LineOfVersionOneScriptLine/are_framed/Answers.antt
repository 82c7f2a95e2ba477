use Rattle.sg_migrate.proofs.Migrations.{one_framed}
use Rattle.sg_migrate.proofs.lines.LineOfVersionOneScriptLine.are_framed.Goals as goal

pub returns : goal.returns
returns c = one_framed
