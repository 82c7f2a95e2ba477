use Rattle.std.proofs.Common.{◌≡◌, ◌∙◌, None, Some, arith, rules, sym}
use Rattle.sg_base.proofs.Decimals.{none_above, none_below, some_below}
use Rattle.sg_base.proofs.fields.read_number.Goals as goal

pub returns-in_err-number-clause-value : goal.returns-in_err-number-clause-value
returns-in_err-number-clause-value c =
    let none : c.read_wide.result ≡ None = search rules in
    let same : c.from_residual.result ≡ None = search rules in
    same ∙ none_below _ c.args.most c.args.text.now (omega arith) (omega arith) (sym none ∙ c.read_wide.ensures)

pub returns-then-number-most-clause-value : goal.returns-then-number-most-clause-value
returns-then-number-most-clause-value c =
    let some : c.read_wide.result ≡ Some c.in_ok-number.number = search rules in
    none_above _ c.args.most c.in_ok-number.number c.args.text.now (omega arith) (omega arith) (sym some ∙ c.read_wide.ensures) c.if-number-most.true

pub returns-clause-value : goal.returns-clause-value
returns-clause-value c =
    let some : c.read_wide.result ≡ Some c.in_ok-number.number = search rules in
    some_below _ c.args.most c.in_ok-number.number c.args.text.now (omega arith) (omega arith) (sym some ∙ c.read_wide.ensures) c.if-number-most.false
