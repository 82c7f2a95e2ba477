use Rattle.sg_aes.proofs.planes.shifted_next.Goals as goal

pub returns : goal.returns
returns c = λ v h. record {
  bit0 = c.shifted_next_plane.ensures v 0 h.bit0;
  bit1 = c.shifted_next_plane-2.ensures v 1 h.bit1;
  bit2 = c.shifted_next_plane-3.ensures v 2 h.bit2;
  bit3 = c.shifted_next_plane-4.ensures v 3 h.bit3;
  bit4 = c.shifted_next_plane-5.ensures v 4 h.bit4;
  bit5 = c.shifted_next_plane-6.ensures v 5 h.bit5;
  bit6 = c.shifted_next_plane-7.ensures v 6 h.bit6;
  bit7 = c.shifted_next_plane-8.ensures v 7 h.bit7;
}
