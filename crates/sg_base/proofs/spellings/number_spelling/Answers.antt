use Rattle.sg_base.proofs.Decimals.{number_again, number_takes}
use Rattle.sg_base.proofs.spellings.number_spelling.Goals as goal

pub returns-clause-again : goal.returns-clause-again
returns-clause-again c = number_again

pub returns-clause-takes : goal.returns-clause-takes
returns-clause-takes c = number_takes
