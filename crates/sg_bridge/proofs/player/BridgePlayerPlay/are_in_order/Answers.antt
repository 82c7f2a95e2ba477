use Rattle.sg_bridge.proofs.Steps.{in_order}
use Rattle.sg_bridge.proofs.player.BridgePlayerPlay.are_in_order.Goals as goal

pub returns : goal.returns
returns g c = in_order
