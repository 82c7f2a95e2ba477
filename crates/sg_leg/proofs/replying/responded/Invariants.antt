use Rattle.std.proofs.Common.{◌≡◌, ◌++◌}
use Rattle.sg_agreement.specs.MessageAnswers.{responded}
use Rattle.sg_leg.proofs.replying.responded.Given as goal

abbrev pub invariant-loop-pair : goal.invariant-loop-pair
invariant-loop-pair l = l.all.items ++ responded l.pair-iterator.rest.items l.left ≡ responded l.fn.streams.items l.map
