use Rattle.sg_ctr.proofs.XorLemmas.{lanes_xored}
use Rattle.sg_ctr.proofs.xor.xor_whole.Goals as goal

pub returns : goal.returns
returns c = lanes_xored 32 c.args.part.now c.args.stream c.args.at c.requires c.fits-stream.0
