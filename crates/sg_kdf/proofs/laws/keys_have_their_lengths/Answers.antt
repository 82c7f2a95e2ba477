use Rattle.sg_kdf.proofs.KdfLemmas.{rtp_keys, rtcp_keys}
use Rattle.sg_kdf.proofs.laws.keys_have_their_lengths.Goals as goal

pub returns-clause-rtp : goal.returns-clause-rtp
returns-clause-rtp c = rtp_keys

pub returns-clause-rtcp : goal.returns-clause-rtcp
returns-clause-rtcp c = rtcp_keys
