use Rattle.sg_run.proofs.Countings.{demonstration_counts}
use Rattle.sg_run.proofs.laws.demonstrations_count_what_is_told.Goals as goal

pub returns : goal.returns
returns c = demonstration_counts
