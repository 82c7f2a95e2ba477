use Rattle.std.proofs.Common.{arith}
use Rattle.std.proofs.lemmas.Grind.{common_steps}
use Rattle.sg_keys.proofs.key_set.KeySet.spend.Goals as goal

pub returns : goal.returns
returns c = grind (arith, common_steps)
