use Rattle.sg_conduct.proofs.Drawn.{own_keys_drawn}
use Rattle.sg_conduct.proofs.laws.own_keys_are_drawn.Goals as goal

pub returns : goal.returns
returns c = λ events. own_keys_drawn events
