use Rattle.sg_trace.proofs.Frames.{lines_framed}
use Rattle.sg_trace.proofs.script_line.LineScriptLine.are_framed.Goals as goal

pub returns : goal.returns
returns c = lines_framed
