use Rattle.sg_outcome.proofs.OutcomeLaws.{outcome_again, outcome_takes}
use Rattle.sg_outcome.proofs.laws.outcomes_have_one_spelling.Goals as goal

pub returns-clause-again : goal.returns-clause-again
returns-clause-again c = outcome_again

pub returns-clause-takes : goal.returns-clause-takes
returns-clause-takes c = λ octets o e. let p = outcome_takes octets o e in (p.0, p.1)
