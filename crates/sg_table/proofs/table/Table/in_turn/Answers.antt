use Rattle.std.proofs.Common.{sym, subst}
use Rattle.std.specs.Prelude.{IsSome}
use Rattle.sg_table.proofs.InTurn.{done_first, done_next, done_all, this_is}
use Rattle.sg_table.specs.declared.arrival.Arrival.{Arrival}
use Rattle.sg_table.proofs.table.Table.in_turn.Goals as goal

pub loop-arrival-init : goal.loop-arrival-init
loop-arrival-init c = done_first c.args.arrivals.now c.args.self.now

pub deliver-requires : goal.deliver-requires
deliver-requires c =
    subst (λ (a : Arrival). IsSome a.pad) (sym (this_is c.args.arrivals.now c.args.self.now c.loop-arrival.arrival-index c.loop-arrival.arrivals c.loop-arrival.self c.arrival-item.result c.loop-arrival-test.true c.loop-arrival.invariant))
    (c.requires c.loop-arrival.arrival-index c.arrival-item.result c.loop-arrival-test.true)

pub loop-arrival-preserved : goal.loop-arrival-preserved
loop-arrival-preserved c =
    done_next c.args.arrivals.now c.args.self.now c.loop-arrival.arrival-index c.loop-arrival.arrivals c.loop-arrival.self c.arrival-item.result c.loop-arrival-test.true c.loop-arrival.invariant
    c.deliver.new.arrival c.deliver.new.self c.deliver.ensures

pub returns : goal.returns
returns c = done_all c.args.arrivals.now c.args.self.now c.loop-arrival.arrival-index c.loop-arrival.arrivals c.loop-arrival.self c.loop-arrival-test.false c.loop-arrival.invariant
