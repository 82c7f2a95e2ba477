use Rattle.sg_aes.proofs.PairLemmas.{joined_is}
use Rattle.sg_aes.proofs.vectors.joined.Goals as goal

pub returns : goal.returns
returns c = joined_is c.args.x c.args.y c.fits-x.0 c.fits-y.0
