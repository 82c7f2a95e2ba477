use Rattle.sg_gateway.specs.Runs.{world_after}
use Rattle.sg_gateway.specs.World.{empty}
use Rattle.sg_table.proofs.Orders.{same_in_every_order, takes_orders}
use Rattle.sg_table.proofs.laws.every_order_gives_the_same.Goals as goal

pub returns : goal.returns
returns c events = same_in_every_order (world_after empty events) (takes_orders c.each_call_by_itself.ensures.calls c.calls_in_order.ensures events)
