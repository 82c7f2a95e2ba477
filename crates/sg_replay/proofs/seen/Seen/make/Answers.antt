use Rattle.sg_replay.proofs.MarkLists.{stands_empty}
use Rattle.sg_replay.proofs.seen.Seen.make.Goals as goal

pub returns : goal.returns
returns c = stands_empty c.args.window _
