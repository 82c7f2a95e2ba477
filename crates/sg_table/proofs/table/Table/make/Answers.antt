use Rattle.sg_gateway.specs.World.{empty}
use Rattle.sg_table.proofs.Calming.{calm_at_0}
use Rattle.sg_table.proofs.Indexed.{empty_indexed}
use Rattle.sg_table.proofs.Stepped.{empty_stands}
use Rattle.sg_table.proofs.table.Table.make.Goals as goal

pub invariant_of-result : goal.invariant_of-result
invariant_of-result c = (
  (empty_indexed c.in_ok-by_slot.by_slot.items c.in_ok-by_slot.ensures.items, calm_at_0 _),
  (empty, empty_stands c.in_ok-by_slot.by_slot.items (record { psks = c.make-2.result; seen = c.in_ok-seen.seen; ring = c.make-3.result }) c.in_ok-by_slot.ensures.items c.make-2.ensures c.in_ok-seen.ensures c.make-3.ensures),
)
