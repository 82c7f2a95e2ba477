use Rattle.sg_session.proofs.NoneTwice.{none_opened_twice, none_sealed_twice}
use Rattle.sg_session.proofs.laws.none_twice_in_a_session.Goals as goal

pub returns-clause-opening : goal.returns-clause-opening
returns-clause-opening c = none_opened_twice

pub returns-clause-sealing : goal.returns-clause-sealing
returns-clause-sealing c = none_sealed_twice
