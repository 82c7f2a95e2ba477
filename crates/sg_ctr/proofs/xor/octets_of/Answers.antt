use Rattle.std.proofs.Common.{◌∙◌}
use Rattle.sg_ctr.proofs.CounterLemmas.{counter_octets_are}
use Rattle.sg_ctr.proofs.xor.octets_of.Goals as goal

pub returns : goal.returns
returns c = c.to_be_bytes.ensures ∙ counter_octets_are c.args.counter
