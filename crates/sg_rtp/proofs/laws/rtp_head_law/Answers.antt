use Rattle.sg_rtp.proofs.HeadPrefixes.{rtp_head_again}
use Rattle.sg_rtp.proofs.laws.rtp_head_law.Goals as goal

pub returns-clause-prefix : goal.returns-clause-prefix
returns-clause-prefix c = rtp_head_again
