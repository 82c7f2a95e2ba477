use Rattle.std.proofs.Common.{List, ◌++◌, map, sym, subst}
use Rattle.sg_gateway.specs.Runs.{world_after}
use Rattle.sg_table.specs.Batches.{IsBatched, arrived}
use Rattle.sg_table.specs.declared.arrival.Arrival.{Arrival}
use Rattle.sg_demo.proofs.Batching.{batched_both}
use Rattle.sg_demo.proofs.state.handle.Goals as goal

pub returns : goal.returns
returns g c = record {
  handled = λ w stands.
      let one = c.batch.ensures.batched w stands in
      let two = c.batch-2.ensures.batched (world_after w (map arrived c.split_at_mut-first.result.0.now)) one.stands in
      subst (λ (l : List Arrival). IsBatched w l (c.batch.new.arrivals ++ c.batch-2.new.arrivals) c.batch-2.new.self) (sym c.split_at_mut-first.ensures.value) (batched_both w _ _ _ _ _ _ one two);
}
