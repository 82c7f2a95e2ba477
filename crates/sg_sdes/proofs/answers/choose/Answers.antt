use Rattle.std.proofs.Common.{arith, ap, ◌∙◌, Ok, Err}
use Rattle.sg_base.specs.declared.SdesFault.TheVariants.{NoLine}
use Rattle.sg_sdes.specs.CryptoOf.{crypto_of}
use Rattle.sg_sdes.proofs.AnswerLaws.{is_read, not_read, none_read, choice_valid, choice_none}
use Rattle.sg_sdes.proofs.answers.choose.Goals as goal

pub returns-in-Ok : goal.returns-in-Ok
returns-in-Ok c =
    let first = is_read c.args.values.now c.loop-value.value-index c.value-item.result c.in-Ok.line _ c.loop-value-test.true c.value-item.is
    (c.in-Ok.ensures.exact ∙ ap crypto_of c.as_slice.ensures) c.loop-value.invariant in
    record { first = first; valid = choice_valid c.args.values.now (Ok c.in-Ok.line) first; none = tt }

pub loop-value-preserved : goal.loop-value-preserved
loop-value-preserved c =
    not_read c.args.values.now c.loop-value.value-index c.value-item.result c.in_default.field-0 _ c.loop-value-test.true c.value-item.is
    (c.in_default.ensures.exact ∙ ap crypto_of c.as_slice.ensures) c.loop-value.invariant

pub returns : goal.returns
returns c =
    let first = none_read c.args.values.now c.loop-value.value-index _ (omega (arith, c.loop-value-test.false)) c.loop-value.invariant in
    record { first = first; valid = tt; none = choice_none c.args.values.now (Err NoLine) first }
