use Rattle.sg_pairs.proofs.BothWays.{told_as_it_is}
use Rattle.sg_pairs.proofs.laws.unjoined_calls_are_told_as_they_are.Goals as goal

pub returns : goal.returns
returns c = told_as_it_is
