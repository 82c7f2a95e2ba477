use Rattle.sg_trace.proofs.Capturings.{holds}
use Rattle.sg_trace.proofs.laws.the_capture_holds.Goals as goal

pub returns : goal.returns
returns c = holds c.frames_are_read.ensures c.captures_are_read.ensures
