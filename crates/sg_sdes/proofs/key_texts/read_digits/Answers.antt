use Rattle.std.proofs.Common.{◌<◌, ap, sym, ◌∙◌, arith, length}
use Rattle.std.specs.Result.{result_ok}
use Rattle.std.proofs.lemmas.Bool.{eqb-false}
use Rattle.sg_sdes.proofs.DigitLaws.{parsed, digits_read, text_is}
use Rattle.sg_sdes.proofs.key_texts.read_digits.Goals as goal

pub returns-in_default : goal.returns-in_default
returns-in_default c = absurd (c.in_default.ensures.cases.0 (text_is c.args.text.now (sym c.if-not-are_digits.ensures)))

pub returns : goal.returns
returns c =
    let all = sym c.if-not-are_digits.ensures in
    let some : 0 < length c.args.text.now = grind (arith, eqb-false (length c.args.text.now) 0 (sym c.if-is_empty.ensures)) in
    let text = c.in-Ok.ensures.cases.0 in
    c.ok.ensures.value
    ∙ ap result_ok (parsed c.args.text.now c.parse.result (rw text at c.parse.ensures.value.0) all some c.if-text-gt-DIGITS_MOST.false)
    ∙ sym (digits_read c.args.text.now all some c.if-text-gt-DIGITS_MOST.false)
