use Rattle.sg_sdp.proofs.CarriedLaws.{carried_is, carried_two_sided}
use Rattle.sg_sdp.proofs.laws.a_carried_text_is_a_description.Goals as goal

pub returns-clause-valid : goal.returns-clause-valid
returns-clause-valid c = carried_is

pub returns-clause-two_sided : goal.returns-clause-two_sided
returns-clause-two_sided c = carried_two_sided
