use Rattle.sg_pairs.proofs.Inside.{all_lost, all_settled}
use Rattle.sg_pairs.proofs.laws.lost_is_refused.Goals as goal

pub returns-clause-settled : goal.returns-clause-settled
returns-clause-settled c = λ said. all_settled said

pub returns-clause-refused : goal.returns-clause-refused
returns-clause-refused c = λ said. all_lost said
