use Rattle.std.proofs.Common.{arith}
use Rattle.sg_ctr.proofs.CounterLemmas.{one_of_counters}
use Rattle.sg_ctr.proofs.xor.numbered.Goals as goal

pub returns : goal.returns
returns c = λ counter held. one_of_counters c.args.first.now counter c.args.number held (omega arith)
