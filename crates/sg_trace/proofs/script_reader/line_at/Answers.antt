use Rattle.std.proofs.Common.{◌+◌, ◌^◌, length, arith, lt-ltb, le-ltb}
use Rattle.sg_trace.proofs.Frames.{at_far, gives_at}
use Rattle.sg_trace.proofs.script_reader.line_at.Goals as goal

pub returns-then-at-line-gt-SCRIPT_MOST-clause-exact : goal.returns-then-at-line-gt-SCRIPT_MOST-clause-exact
returns-then-at-line-gt-SCRIPT_MOST-clause-exact g c =
    at_far g.L.ScriptLine.spelled c.args.version c.args.number c.args.at c.args.line.now (lt-ltb (2 ^ 30) (c.args.at + length c.args.line.now) (omega (arith, c.if-at-line-gt-SCRIPT_MOST.true)))

pub returns-clause-exact : goal.returns-clause-exact
returns-clause-exact g c = gives_at g.L.ScriptLine.spelled c.args.version c.args.number c.args.at c.args.line.now c.read.result
    (le-ltb (2 ^ 30) (c.args.at + length c.args.line.now) (omega (arith, c.if-at-line-gt-SCRIPT_MOST.false))) c.read.ensures.exact
