use Rattle.sg_pairs.proofs.BothWays.{all_behind, all_happen}
use Rattle.sg_pairs.proofs.laws.each_line_happens.Goals as goal

pub returns-clause-lines : goal.returns-clause-lines
returns-clause-lines c = λ said. all_happen said

pub returns-clause-worlds : goal.returns-clause-worlds
returns-clause-worlds c = λ said. all_behind said
