use Rattle.std.proofs.Common.{arith}
use Rattle.std.proofs.lemmas.Grind.{common_steps}
use Rattle.sg_leg.proofs.idle.manual_medium.Goals as goal

pub returns-clause-served : goal.returns-clause-served
returns-clause-served c = grind (arith, common_steps)
