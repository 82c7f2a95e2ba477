use Rattle.sg_base.proofs.SuiteLemmas.{suite_again, suite_takes}
use Rattle.sg_base.proofs.suite_names.suite_spelling.Goals as goal

pub returns-clause-again : goal.returns-clause-again
returns-clause-again c = suite_again

pub returns-clause-takes : goal.returns-clause-takes
returns-clause-takes c = suite_takes
