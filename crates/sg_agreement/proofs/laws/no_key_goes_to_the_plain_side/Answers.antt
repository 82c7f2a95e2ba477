use Rattle.sg_agreement.proofs.Sound.{offer_two_sided, answer_two_sided}
use Rattle.sg_agreement.proofs.laws.no_key_goes_to_the_plain_side.Goals as goal

pub returns-clause-offer : goal.returns-clause-offer
returns-clause-offer c = offer_two_sided c.a_carried_text_is_a_description.ensures.two_sided c.descriptions_have_one_value.ensures.takes

pub returns-clause-answer : goal.returns-clause-answer
returns-clause-answer c = answer_two_sided c.a_carried_text_is_a_description.ensures.two_sided c.descriptions_have_one_value.ensures.takes
