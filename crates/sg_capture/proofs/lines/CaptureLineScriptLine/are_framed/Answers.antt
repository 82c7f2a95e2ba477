use Rattle.sg_capture.proofs.CaptureLines.{capture_framed}
use Rattle.sg_capture.proofs.lines.CaptureLineScriptLine.are_framed.Goals as goal

pub returns : goal.returns
returns c = capture_framed
