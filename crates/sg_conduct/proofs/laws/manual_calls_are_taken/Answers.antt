use Rattle.std.proofs.Common.{get_or}
use Rattle.sg_gateway.specs.Runs.{turns}
use Rattle.sg_conduct.proofs.Manual.{manual_taken}
use Rattle.sg_conduct.proofs.laws.manual_calls_are_taken.Goals as goal

pub returns : goal.returns
returns c = λ events i t lt. manual_taken (get_or (turns events) i t) (c.signals_are_taken.ensures.manual events i t lt)
