use Rattle.sg_base.proofs.FourNumbers.{four_again, four_takes}
use Rattle.sg_base.proofs.spellings.four_spelling.Goals as goal

pub returns-clause-again : goal.returns-clause-again
returns-clause-again c = four_again

pub returns-clause-takes : goal.returns-clause-takes
returns-clause-takes c = four_takes
