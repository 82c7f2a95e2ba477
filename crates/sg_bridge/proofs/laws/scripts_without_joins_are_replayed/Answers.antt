use Rattle.sg_bridge.proofs.Replayed.{played_alike}
use Rattle.sg_bridge.proofs.laws.scripts_without_joins_are_replayed.Goals as goal

pub returns : goal.returns
returns c = played_alike c.unjoined_calls_are_told_as_they_are.ensures
