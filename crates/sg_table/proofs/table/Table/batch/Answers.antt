use Rattle.sg_table.proofs.Alone.{batched_alone}
use Rattle.sg_table.proofs.Ended.{ended}
use Rattle.sg_table.proofs.Orders.{batched_as}
use Rattle.sg_table.proofs.table.Table.batch.Goals as goal

pub returns-clause-alone : goal.returns-clause-alone
returns-clause-alone g c w stands = batched_alone c.only_its_own_call_counts.ensures w _ _ c.args.self.now stands (ended w _ _ _ (c.handle.ensures w stands))

pub returns-clause-orders : goal.returns-clause-orders
returns-clause-orders g c w others stands =
    let batched = c.handle.ensures w stands in
    batched_as c.every_order_gives_the_same.ensures w _ _ others c.args.self.now _ stands (ended w _ _ _ batched) batched.stands
