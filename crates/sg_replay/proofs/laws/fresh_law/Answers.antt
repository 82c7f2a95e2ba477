use Rattle.sg_replay.proofs.DoneLists.{new_not_in}
use Rattle.sg_replay.proofs.laws.fresh_law.Goals as goal

pub returns : goal.returns
returns c = new_not_in
