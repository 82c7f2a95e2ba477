use Rattle.std.proofs.Common.{rules}
use Rattle.sg_replay.proofs.RowBits.{set_here, set_others}
use Rattle.sg_replay.proofs.row.set.Goals as goal

pub returns-clause-here : goal.returns-clause-here
returns-clause-here c = set_here c.args.row.now c.args.place (search rules) c.requires

pub returns-clause-others : goal.returns-clause-others
returns-clause-others c = λ k _ ne. set_others c.args.row.now c.args.place k (search rules) c.requires ne
