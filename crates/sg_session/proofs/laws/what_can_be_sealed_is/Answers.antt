use Rattle.sg_session.proofs.CanSeal.{can_seal}
use Rattle.sg_session.proofs.laws.what_can_be_sealed_is.Goals as goal

pub returns : goal.returns
returns c = can_seal
