use Rattle.std.proofs.Common.{arith}
use Rattle.sg_ctr.proofs.CounterLemmas.{pair_of_counters}
use Rattle.sg_ctr.proofs.xor.counters.Goals as goal

pub returns : goal.returns
returns c = λ counter held. pair_of_counters c.args.first.now counter c.args.number held (omega arith) (omega arith)
