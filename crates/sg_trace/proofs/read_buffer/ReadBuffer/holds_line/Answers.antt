use Rattle.std.proofs.Common.{subst}
use Rattle.sg_trace.proofs.Common.{HoldsLine, NoEnd}
use Rattle.sg_trace.proofs.LineParts.{held, none_held}
use Rattle.sg_trace.proofs.read_buffer.ReadBuffer.holds_line.Goals as goal

pub returns-clause-holds : goal.returns-clause-holds
returns-clause-holds c = λ is. subst HoldsLine c.waiting-waiting.ensures (held c.line_in.result.1 _ c.line_in.result.0 c.line_in.ensures.line is)

pub returns-clause-none : goal.returns-clause-none
returns-clause-none c = λ is. subst NoEnd c.waiting-waiting.ensures (none_held c.line_in.result.1 _ c.line_in.result.0 c.line_in.ensures.line is)
