use Rattle.sg_pcap.proofs.Writings.{captures_read}
use Rattle.sg_pcap.proofs.laws.captures_are_read.Goals as goal

pub returns : goal.returns
returns c = captures_read
