use Rattle.std.proofs.Common.{arith, refl}
use Rattle.sg_aes.proofs.SwapLemmas.{swapped_is, swapped_small}
use Rattle.sg_aes.proofs.sixteen.swapped_1.Goals as goal

pub returns : goal.returns
returns c = record {
  exchanged = λ f g ha hb. swapped_is 1 85 refl refl (omega arith) refl f g c.args.a c.args.b c.fits-a.1 ha hb;
  octets = λ p hp. swapped_small 1 85 c.args.a c.args.b (omega arith) c.fits-a.0 c.fits-b.0 c.fits-a.1 c.fits-b.1 p hp;
}
