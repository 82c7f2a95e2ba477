use Rattle.std.proofs.Common.{arith}
use Rattle.std.proofs.lemmas.Grind.{common_steps}
use Rattle.sg_leg.proofs.answering.exchanged_profiles.Goals as goal

pub loop-medium-preserved : goal.loop-medium-preserved
loop-medium-preserved c = grind (arith, common_steps)
