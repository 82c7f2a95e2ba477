use Rattle.std.proofs.Common.{ℕ, ◌*◌}
use Rattle.sg_ctr.specs.Xor.{CountsFrom, XorsOnto, stream_octet}
use Rattle.sg_ctr.proofs.xor.xor_sixteens.Given as goal

abbrev pub invariant-sixteens : goal.invariant-sixteens
invariant-sixteens l = (counter : ℕ) → CountsFrom l.first counter → XorsOnto l.fn.part l.part 0 (256 * l.i) (stream_octet l.schedule counter)
