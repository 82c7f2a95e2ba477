use Rattle.sg_aes.proofs.PairLemmas.{first_half, second_half}
use Rattle.sg_aes.proofs.vectors.halves.Goals as goal

pub returns : goal.returns
returns c x y hx hy e = (first_half c.args.n x y hx hy e, second_half c.args.n x y hx hy e)
