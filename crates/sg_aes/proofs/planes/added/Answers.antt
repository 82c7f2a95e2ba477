use Rattle.sg_aes.proofs.PlaneLemmas.{summed_bits}
use Rattle.sg_aes.proofs.planes.added.Goals as goal

pub returns : goal.returns
returns c = λ v w h k. record {
  bit0 = summed_bits h.bit0 k.bit0 c.sum.ensures;
  bit1 = summed_bits h.bit1 k.bit1 c.sum-2.ensures;
  bit2 = summed_bits h.bit2 k.bit2 c.sum-3.ensures;
  bit3 = summed_bits h.bit3 k.bit3 c.sum-4.ensures;
  bit4 = summed_bits h.bit4 k.bit4 c.sum-5.ensures;
  bit5 = summed_bits h.bit5 k.bit5 c.sum-6.ensures;
  bit6 = summed_bits h.bit6 k.bit6 c.sum-7.ensures;
  bit7 = summed_bits h.bit7 k.bit7 c.sum-8.ensures;
}
