use Rattle.std.proofs.Common.{ap, subst, map, ◌∙◌}
use Rattle.sg_lines.specs.Fields.{Gives}
use Rattle.sg_lines.specs.LineOf.{said_by}
use Rattle.sg_lines.proofs.Searches.{first_nine}
use Rattle.sg_lines.proofs.reading.body_line.Goals as goal

pub returns : goal.returns
returns c =
    subst (Gives c.line_of_fields.result) (ap (λ l. said_by c.args.version (map (λ x. x.now) l)) c.as_slice.ensures.value ∙ ap (said_by c.args.version) c.fields-fields.ensures ∙ first_nine _ _) c.line_of_fields.ensures
