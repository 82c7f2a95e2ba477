use Rattle.std.proofs.Common.{refl}
use Rattle.sg_aes.specs.Field.{times_x}
use Rattle.sg_aes.proofs.PlaneLemmas.{retold, both_retold}
use Rattle.sg_aes.proofs.planes.doubled.Goals as goal

pub returns : goal.returns
returns c = λ v small h. record {
  bit0 = retold times_x 7 0 refl small h.bit7;
  bit1 = both_retold times_x 0 7 1 refl small h.bit0 h.bit7 c.sum.ensures;
  bit2 = retold times_x 1 2 refl small h.bit1;
  bit3 = both_retold times_x 2 7 3 refl small h.bit2 h.bit7 c.sum-2.ensures;
  bit4 = both_retold times_x 3 7 4 refl small h.bit3 h.bit7 c.sum-3.ensures;
  bit5 = retold times_x 4 5 refl small h.bit4;
  bit6 = retold times_x 5 6 refl small h.bit5;
  bit7 = retold times_x 6 7 refl small h.bit6;
}
