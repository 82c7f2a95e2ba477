use Rattle.std.proofs.Common.{◌∙◌, ap}
use Rattle.sg_kdf.proofs.KdfLemmas.{session_keys_raw, raw_auth_is, octets_by_index}
use Rattle.sg_kdf.proofs.laws.raw_key_is_the_authentication_key.Goals as goal

pub returns : goal.returns
returns c m raw long h = ap (λ keys. keys.rtp.auth) (session_keys_raw m raw) ∙ raw_auth_is m.key long (octets_by_index m.key h)
