use Rattle.sg_table.proofs.Calming.{calm_of_all}
use Rattle.sg_table.proofs.ends.calm_of.Goals as goal

pub returns-clause-calls : goal.returns-clause-calls
returns-clause-calls c = calm_of_all c.loop-each.calm c.args.last c.loop-each.each-index c.args.calls.now c.loop-each-test.false c.loop-each.invariant
