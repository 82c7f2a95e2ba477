use Rattle.sg_replay.proofs.RowBits.{bit_test}
use Rattle.sg_replay.proofs.row.is_set.Goals as goal

pub returns : goal.returns
returns c = bit_test c.args.row.now c.args.place
