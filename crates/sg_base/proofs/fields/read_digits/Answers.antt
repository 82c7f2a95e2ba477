use Rattle.std.proofs.Common.{◌≡◌, ◌+◌, ◌∙◌, ℕ, Some, ap, arith, subst, sym, take}
use Rattle.std.specs.Prelude.{slice_index}
use Rattle.std.specs.Char.{digit_value}
use Rattle.std.specs.Int.{IsInRange}
use Rattle.std.specs.Str.Parse.{AllDigits, digits_value}
use Rattle.std.proofs.lemmas.Str.{digit_value_digit}
use Rattle.std.proofs.lemmas.Int.Digits.{digits_more, digits_value_more}
use Rattle.std.proofs.lemmas.List.{length-take, take_all}
use Rattle.std.proofs.lemmas.Str.Parse.{digits_value_short, numerals_by_value, tells_digits}
use Rattle.sg_base.proofs.Decimals.{not_digit, spelled}
use Rattle.sg_base.proofs.fields.read_digits.Goals as goal

pub returns-then-digit-gt9 : goal.returns-then-digit-gt9
returns-then-digit-gt9 c =
    sym (not_digit _ c.args.text.now c.digits.octet-index (omega arith) c.digits-test.true (λ range. omega (arith, c.if-digit-gt9.true, range)))

pub overflow_mul-number : goal.overflow_mul-number
overflow_mul-number c =
    let fits = digits_value_short (numerals_by_value _ tells_digits) (take c.digits.octet-index c.args.text.now) 18 c.digits.invariant.digits (omega (arith, length-take c.digits.octet-index c.args.text.now, c.requires.few, c.digits-test.true)) in
    omega (arith, fits, c.digits.invariant.value)

pub overflow_add-number : goal.overflow_add-number
overflow_add-number c =
    let fits = digits_value_short (numerals_by_value _ tells_digits) (take c.digits.octet-index c.args.text.now) 18 c.digits.invariant.digits (omega (arith, length-take c.digits.octet-index c.args.text.now, c.requires.few, c.digits-test.true)) in
    omega (arith, fits, c.digits.invariant.value, c.if-digit-gt9.false)

pub digits-preserved : goal.digits-preserved
digits-preserved c =
    let octet : ℕ = slice_index c.args.text.now c.digits.octet-index in
    let range : IsInRange 48 57 octet = (omega (arith, c.if-digit-gt9.false, c.type_inv.text c.digits.octet-index), omega (arith, c.if-digit-gt9.false, c.type_inv.text c.digits.octet-index)) in
    let value : digit_value octet + 48 ≡ octet = digit_value_digit octet range in
    let more = digits_value_more 10 c.args.text.now c.digits.octet-index c.digits-test.true in
    record {
      value = omega (arith, more, value, c.digits.invariant.value, range, c.from.ensures);
      digits = digits_more 10 c.args.text.now c.digits.octet-index c.digits-test.true c.digits.invariant.digits (omega (arith, value, range));
    }

pub returns : goal.returns
returns c =
    let all : take c.digits.octet-index c.args.text.now ≡ c.args.text.now = take_all c.digits.octet-index c.args.text.now c.digits-test.false in
    let digits : AllDigits 10 c.args.text.now = subst (AllDigits 10) all c.digits.invariant.digits in
    let value : c.digits.number ≡ digits_value 10 c.args.text.now = c.digits.invariant.value ∙ ap (digits_value 10) all in
    ap Some (c.from-2.ensures ∙ value)
    ∙ sym (spelled _ c.args.text.now digits c.requires.some (λ zero. absurd (c.requires.lead zero)) (omega (arith, value, c.digits.auto.number-fits)) (omega arith) (omega arith))
