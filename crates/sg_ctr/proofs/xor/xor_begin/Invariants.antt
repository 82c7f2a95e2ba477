use Rattle.std.proofs.Common.{slice_index}
use Rattle.sg_ctr.specs.Xor.{XorsOnto}
use Rattle.sg_ctr.proofs.xor.xor_begin.Given as goal

abbrev pub invariant-octets : goal.invariant-octets
invariant-octets l = XorsOnto l.initial.part l.part l.at l.i (λ k. slice_index l.stream k)
