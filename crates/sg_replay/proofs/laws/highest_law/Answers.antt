use Rattle.sg_replay.proofs.DoneLists.{highest_of-push, highest_of-none, is_in-highest, is_in-above_highest}
use Rattle.sg_replay.proofs.laws.highest_law.Goals as goal

pub returns-clause-pushed : goal.returns-clause-pushed
returns-clause-pushed c = highest_of-push

pub returns-clause-member : goal.returns-clause-member
returns-clause-member c = is_in-highest

pub returns-clause-above : goal.returns-clause-above
returns-clause-above c = is_in-above_highest

pub returns-clause-empty : goal.returns-clause-empty
returns-clause-empty c = highest_of-none
