use Rattle.sg_agreement.proofs.AllAgreed.{offer_is, all_agreed}
use Rattle.sg_agreement.proofs.laws.active_media_are_agreed.Goals as goal

pub returns-clause-offer : goal.returns-clause-offer
returns-clause-offer c = offer_is

pub returns-clause-answer : goal.returns-clause-answer
returns-clause-answer c = all_agreed
