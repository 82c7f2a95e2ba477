use Rattle.std.proofs.Common.{◌*◌}
use Rattle.sg_ctr.specs.Xor.{XorsOnto, stream_octet}
use Rattle.sg_ctr.proofs.xor.xor_stream.Given as goal

abbrev pub invariant-fours : goal.invariant-fours
invariant-fours l = XorsOnto l.fn.part l.part 0 (64 * l.i) (stream_octet l.schedule l.counter)
