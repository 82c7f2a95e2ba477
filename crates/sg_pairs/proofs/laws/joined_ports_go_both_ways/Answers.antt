use Rattle.sg_pairs.proofs.BothWays.{all_both_ways}
use Rattle.sg_pairs.proofs.laws.joined_ports_go_both_ways.Goals as goal

pub returns : goal.returns
returns c = λ said. all_both_ways said
