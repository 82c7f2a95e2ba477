use Rattle.sg_hmac.proofs.Sizes.{length-hmac_sha1, All-hmac_sha1}
use Rattle.sg_hmac.proofs.laws.hmac_sha1_length.Goals as goal

pub returns-clause-length : goal.returns-clause-length
returns-clause-length c = length-hmac_sha1

pub returns-clause-octets : goal.returns-clause-octets
returns-clause-octets c = All-hmac_sha1
