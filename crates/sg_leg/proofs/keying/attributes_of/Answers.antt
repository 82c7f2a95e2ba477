use Rattle.std.proofs.Common.{arith}
use Rattle.std.proofs.lemmas.Grind.{common_steps}
use Rattle.sg_leg.proofs.keying.attributes_of.Goals as goal

pub loop-lines-preserved : goal.loop-lines-preserved
loop-lines-preserved c = grind (arith, common_steps)
