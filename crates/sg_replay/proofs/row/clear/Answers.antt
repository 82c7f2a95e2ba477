use Rattle.std.proofs.Common.{rules}
use Rattle.sg_replay.proofs.RowBits.{clear_here, clear_others}
use Rattle.sg_replay.proofs.row.clear.Goals as goal

pub returns-clause-here : goal.returns-clause-here
returns-clause-here c = clear_here c.args.row.now c.args.place (search rules) c.requires

pub returns-clause-others : goal.returns-clause-others
returns-clause-others c = λ k _ ne. clear_others c.args.row.now c.args.place k (search rules) c.requires ne
