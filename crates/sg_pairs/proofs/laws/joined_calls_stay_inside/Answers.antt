use Rattle.sg_pairs.proofs.Inside.{all_cross, all_inside}
use Rattle.sg_pairs.proofs.laws.joined_calls_stay_inside.Goals as goal

pub returns-clause-inside : goal.returns-clause-inside
returns-clause-inside c = λ said. all_inside said

pub returns-clause-crossing : goal.returns-clause-crossing
returns-clause-crossing c = λ said. all_cross said
