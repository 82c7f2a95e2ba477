use Rattle.sg_session.proofs.Lives.{opened_within, sealed_within}
use Rattle.sg_session.proofs.laws.no_key_past_its_life.Goals as goal

pub returns-clause-opening : goal.returns-clause-opening
returns-clause-opening c = opened_within

pub returns-clause-sealing : goal.returns-clause-sealing
returns-clause-sealing c = sealed_within
