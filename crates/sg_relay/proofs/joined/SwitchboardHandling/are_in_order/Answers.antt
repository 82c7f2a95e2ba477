use Rattle.sg_relay.proofs.Joins.{in_order}
use Rattle.sg_relay.proofs.joined.SwitchboardHandling.are_in_order.Goals as goal

pub returns : goal.returns
returns c = in_order
