use Rattle.sg_run.proofs.ByOptions.{by_option}
use Rattle.sg_run.proofs.laws.runs_go_by_their_option.Goals as goal

pub returns : goal.returns
returns c = by_option c.ports_are_shared_as_told.ensures c.told_texts_are_descriptions.ensures
