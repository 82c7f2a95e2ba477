use Rattle.std.proofs.Common.{arith}
use Rattle.sg_kdf.proofs.KdfLemmas.{rtp_keys, rtcp_keys, some_octets}
use Rattle.sg_kdf.proofs.laws.encryption_keys_are_not_empty.Goals as goal

pub returns-clause-rtp : goal.returns-clause-rtp
returns-clause-rtp c m h = omega (arith, (rtp_keys m).encrypt_length, some_octets m.suite h)

pub returns-clause-rtcp : goal.returns-clause-rtcp
returns-clause-rtcp c m h = omega (arith, (rtcp_keys m).encrypt_length, some_octets m.suite h)
