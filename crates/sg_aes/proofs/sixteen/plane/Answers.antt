use Rattle.sg_aes.proofs.PlaneLemmas.{plane_is}
use Rattle.sg_aes.proofs.sixteen.plane.Goals as goal

pub returns : goal.returns
returns c = λ b hb e. plane_is c.args.x c.args.bit b c.fits-x.0 c.fits-x.1 hb e
