use Rattle.std.proofs.Common.{rules, subst, sym}
use Rattle.sg_pairs.proofs.BridgeFrames.{few_fields, many_fields}
use Rattle.sg_pairs.specs.BridgeLines.{of_script}
use Rattle.sg_lines.specs.Fields.{Gives}
use Rattle.sg_lines.specs.LineOf.{line_of}
use Rattle.sg_pairs.proofs.reading.line_of_fields.Goals as goal
use Rattle.sg_pairs.proofs.reading.line_of_fields.Goals.{in_default-via-then-fields-lt2, in_default-via-else-fields-lt2+else-fields-lt3+else-fields-lt4}

pub returns-in_default-clause-exact : goal.returns-in_default-clause-exact
returns-in_default-clause-exact c =
    elim c.in_default.branch [
      | in_default-via-then-fields-lt2 w ↦ subst (Gives c.script_line-in_default.result) (sym (few_fields _ (of_script (line_of c.args.version c.args.number c.args.octets.now)) c.args.fields.now (search rules))) c.script_line-in_default.ensures.exact
      | in_default-via-else-fields-lt2+else-fields-lt3+else-fields-lt4 w ↦ subst (Gives c.script_line-in_default.result) (sym (many_fields _ (of_script (line_of c.args.version c.args.number c.args.octets.now)) c.args.fields.now (search rules))) c.script_line-in_default.ensures.exact
    ]

pub returns-then-eq-clause-fits : goal.returns-then-eq-clause-fits
returns-then-eq-clause-fits c = c.in_ok-part-in-len2.ensures.fits c.args.version c.args.number

pub returns-then-eq-2-clause-fits : goal.returns-then-eq-2-clause-fits
returns-then-eq-2-clause-fits c = c.in_ok-join-in-len3.ensures.fits c.args.version c.args.number
