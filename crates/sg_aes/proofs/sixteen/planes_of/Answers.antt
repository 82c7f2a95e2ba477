use Rattle.std.proofs.Common.{refl, arith}
use Rattle.sg_aes.proofs.sixteen.planes_of.Goals as goal

pub returns : goal.returns
returns c = record {
  bit0 = c.plane.ensures 0 (omega arith) refl;
  bit1 = c.plane-2.ensures 1 (omega arith) refl;
  bit2 = c.plane-3.ensures 2 (omega arith) refl;
  bit3 = c.plane-4.ensures 3 (omega arith) refl;
  bit4 = c.plane-5.ensures 4 (omega arith) refl;
  bit5 = c.plane-6.ensures 5 (omega arith) refl;
  bit6 = c.plane-7.ensures 6 (omega arith) refl;
  bit7 = c.plane-8.ensures 7 (omega arith) refl;
}
