use Rattle.sg_base.proofs.Pairs.{octets_again, octets_take}
use Rattle.sg_base.proofs.spellings.octets_spelling.Goals as goal

pub returns-clause-again : goal.returns-clause-again
returns-clause-again c = octets_again

pub returns-clause-takes : goal.returns-clause-takes
returns-clause-takes c = octets_take
