use Rattle.sg_base.proofs.FourNumbers.{address_again, address_takes}
use Rattle.sg_base.proofs.spellings.address_spelling.Goals as goal

pub returns-clause-again : goal.returns-clause-again
returns-clause-again c = address_again

pub returns-clause-takes : goal.returns-clause-takes
returns-clause-takes c = address_takes
