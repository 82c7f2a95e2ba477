use Rattle.sg_mux.proofs.Told.{told_with_lines}
use Rattle.sg_mux.proofs.laws.told_texts_are_descriptions.Goals as goal

pub returns : goal.returns
returns c = told_with_lines c.descriptions_have_one_value.ensures.takes c.a_description_stays_one.ensures.medium
