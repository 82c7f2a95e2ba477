use Rattle.sg_agreement.proofs.TextLines.{from_secure, from_plain}
use Rattle.sg_agreement.proofs.laws.what_is_agreed_stands_in_the_texts.Goals as goal

pub returns-clause-offered : goal.returns-clause-offered
returns-clause-offered c = from_secure

pub returns-clause-answered : goal.returns-clause-answered
returns-clause-answered c = from_plain
