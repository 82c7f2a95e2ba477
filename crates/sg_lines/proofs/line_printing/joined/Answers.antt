use Rattle.std.proofs.Common.{◌≤◌, length, take, ◌-◌, ◌∙◌, arith}
use Rattle.sg_lines.proofs.Joins.{goes_on, ends}
use Rattle.sg_lines.proofs.line_printing.joined.Goals as goal

pub loop-field-preserved : goal.loop-field-preserved
loop-field-preserved c = goes_on c.args.fields.now c.loop-field.field-index _ c.loop-field.out.items _ _ c.loop-field-test.true c.in_ok-extend_from_slice.ensures.items c.in_ok-push.ensures.items c.loop-field.invariant

pub returns : goal.returns
returns c =
    let below : c.loop-field.field-index ≤ length (take (length c.args.fields.now - 1) c.args.fields.now) = omega arith in
    c.from_vec.ensures ∙ ends c.args.fields.now c.loop-field.field-index _ c.loop-field.out.items _ _ c.requires c.loop-field-test.false below c.in_ok-extend_from_slice-2.ensures.items c.in_ok-push-2.ensures.items c.loop-field.invariant
