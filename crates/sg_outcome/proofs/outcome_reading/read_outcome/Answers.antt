use Rattle.std.proofs.Common.{ap, subst, ◌∙◌}
use Rattle.sg_lines.specs.Fields.{Gives}
use Rattle.sg_outcome.specs.OutcomeOf.{outcome_of}
use Rattle.sg_outcome.proofs.OutcomeLaws.{outcome_again, is_found}
use Rattle.sg_outcome.proofs.outcome_reading.read_outcome.Goals as goal

pub returns-clause-found : goal.returns-clause-found
returns-clause-found c = is_found c.args.octets.now c.outcome.result c.outcome.ensures

pub returns-clause-only : goal.returns-clause-only
returns-clause-only c = λ o fits short e. subst (λ read. Gives c.outcome.result read) (ap outcome_of e ∙ outcome_again o fits short) c.outcome.ensures
