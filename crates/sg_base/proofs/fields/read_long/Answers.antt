use Rattle.std.proofs.Common.{sym, ap, subst, ◌∙◌, ◌≡◌, arith, Ok}
use Rattle.std.specs.Fmt.{decimal}
use Rattle.std.specs.Str.{IsAscii}
use Rattle.std.proofs.lemmas.Fmt.{parse-decimal_wide, IsAscii-decimal_wide}
use Rattle.std.proofs.lemmas.Str.{IsUtf8-from_ascii}
use Rattle.sg_base.proofs.Decimals.{number_again, number_none, differ, agree}
use Rattle.sg_base.proofs.fields.read_long.Goals as goal

pub returns-in_default : goal.returns-in_default
returns-in_default c = sym (number_none _ c.args.text.now
    (λ n small e. c.in_default.ensures.cases.0 (IsUtf8-from_ascii c.args.text.now (subst IsAscii (sym e) (IsAscii-decimal_wide n (omega arith))))))

pub returns-in_default-parse : goal.returns-in_default-parse
returns-in_default-parse c = sym (number_none _ c.args.text.now
    (λ n small e. c.in_default-parse.not-Ok n (parse-decimal_wide 128 n c.in-Ok.digits.now c.parse.result (omega arith) (omega arith) (c.in-Ok.ensures.cases.0 ∙ e) c.parse.ensures.value.0)))

pub returns-then-ne : goal.returns-then-ne
returns-then-ne c = sym (number_none _ c.args.text.now (λ n small e.
    let p : c.parse.result ≡ Ok n = parse-decimal_wide 128 n c.in-Ok.digits.now c.parse.result (omega arith) (omega arith) (c.in-Ok.ensures.cases.0 ∙ e) c.parse.ensures.value.0 in
    let same : c.in-Ok-parse.number ≡ n = cc in
    differ c.as_bytes.result.now c.args.text.now c.if-ne.ensures (c.as_bytes.ensures.value ∙ c.format.ensures.text ∙ ap decimal same ∙ sym e)))

pub returns : goal.returns
returns c =
    let e : c.args.text.now ≡ decimal c.in-Ok-parse.number = sym (agree c.as_bytes.result.now c.args.text.now c.if-ne.ensures) ∙ c.as_bytes.ensures.value ∙ c.format.ensures.text in
    rw e (sym (number_again _ c.in-Ok-parse.number (omega arith) (omega arith)))
