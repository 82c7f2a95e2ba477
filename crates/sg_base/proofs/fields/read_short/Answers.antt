use Rattle.std.proofs.Common.{arith, sym}
use Rattle.std.proofs.lemmas.Bool.Decides.{nat_tests}
use Rattle.sg_base.proofs.Decimals.{not_empty, not_led, zero_alone}
use Rattle.sg_base.proofs.fields.read_short.Goals as goal

pub returns-then-is_empty : goal.returns-then-is_empty
returns-then-is_empty c = sym (not_empty _ c.args.text.now (omega arith) (grind (arith, nat_tests)))

pub returns-then-text-gt1 : goal.returns-then-text-gt1
returns-then-text-gt1 c = sym (not_led _ c.args.text.now (omega arith) c.if-text-ne48.false c.if-text-gt1.true)

pub returns : goal.returns
returns c = zero_alone _ c.args.text.now (omega arith) (grind (arith, nat_tests)) c.if-text-ne48.false
