use Rattle.std.proofs.Common.{arith}
use Rattle.std.proofs.lemmas.Grind.{common_steps}
use Rattle.sg_agreement.specs.Attributes.{mikey_value}
use Rattle.sg_leg.proofs.attributes.mikey_value.Goals as goal

pub returns-in-Some : goal.returns-in-Some
unfolding mikey_value
returns-in-Some c = grind (arith, common_steps)

pub loop-line-preserved : goal.loop-line-preserved
unfolding mikey_value
loop-line-preserved c = grind (arith, common_steps)
