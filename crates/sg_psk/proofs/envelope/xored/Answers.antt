use Rattle.std.proofs.Common.{arith}
use Rattle.sg_hmac.proofs.PrfLemmas.{one_more}
use Rattle.sg_psk.proofs.envelope.xored.Goals as goal

pub loop-i-preserved : goal.loop-i-preserved
loop-i-preserved c = rw c.loop-i.invariant (one_more c.loop-i.i c.args.octets.now c.args.others.now (omega arith) (omega arith))
