use Rattle.std.proofs.Common.{ap, subst, map, ◌∙◌}
use Rattle.sg_lines.specs.Fields.{Gives}
use Rattle.sg_outcome.specs.OutcomeOf.{outcome_from}
use Rattle.sg_outcome.proofs.OutcomeLaws.{first_nine}
use Rattle.sg_outcome.proofs.outcome_reading.body_outcome.Goals as goal

pub returns : goal.returns
returns c =
    subst (Gives c.outcome_of_fields.result) (ap (λ l. outcome_from (map (λ x. x.now) l)) c.as_slice.ensures.value ∙ ap outcome_from c.fields-fields.ensures ∙ first_nine _) c.outcome_of_fields.ensures
