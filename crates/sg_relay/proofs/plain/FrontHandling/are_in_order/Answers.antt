use Rattle.sg_relay.proofs.Gives.{in_order}
use Rattle.sg_relay.proofs.plain.FrontHandling.are_in_order.Goals as goal

pub returns : goal.returns
returns c = in_order
