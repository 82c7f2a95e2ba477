use Rattle.sg_gateway.specs.Runs.{world_after}
use Rattle.sg_gateway.specs.World.{empty}
use Rattle.sg_table.proofs.Alone.{only_its_own}
use Rattle.sg_table.proofs.laws.only_its_own_call_counts.Goals as goal

pub returns : goal.returns
returns c events = only_its_own (world_after empty events) (c.each_call_by_itself.ensures.told events)
