use Rattle.sg_pcap.proofs.SkipLines.{skip_again, skip_takes}
use Rattle.sg_pcap.proofs.laws.skips_have_one_spelling.Goals as goal

pub returns : goal.returns
returns c = λ line number cause. (skip_takes line number cause, λ is. skip_again line number cause is.0 is.1)
