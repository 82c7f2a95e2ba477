use Rattle.sg_sdp.specs.Descriptions.{all_lines}
use Rattle.sg_sdp.proofs.Described.{one_value, printed_again, within_again, within_takes}
use Rattle.sg_sdp.proofs.Prints.{spells_again}
use Rattle.sg_sdp.proofs.laws.descriptions_have_one_value.Goals as goal

pub returns-clause-again : goal.returns-clause-again
returns-clause-again c = λ most text s is spelled short. within_again most text s is spelled short

pub returns-clause-takes : goal.returns-clause-takes
returns-clause-takes c = λ most text s e. let r = within_takes most text s e in (r.is, r.spelled, r.short)

pub returns-clause-one : goal.returns-clause-one
returns-clause-one c = one_value

pub returns-clause-printed : goal.returns-clause-printed
returns-clause-printed c = λ s. spells_again (all_lines s)

pub returns-clause-printed_again : goal.returns-clause-printed_again
returns-clause-printed_again c = printed_again
