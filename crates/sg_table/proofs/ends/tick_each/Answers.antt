use Rattle.sg_table.proofs.Ticking.{ticks_all}
use Rattle.sg_table.proofs.ends.tick_each.Goals as goal

pub returns : goal.returns
returns c = ticks_all c.args.now c.loop-call.call-index c.args.calls.now c.loop-call.calls c.loop-call.auto.calls c.loop-call-test.false c.loop-call.invariant
