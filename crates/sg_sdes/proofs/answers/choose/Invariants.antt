use Rattle.std.proofs.Common.{◌≡◌, drop}
use Rattle.sg_sdes.specs.Answers.{chosen_of}
use Rattle.sg_sdes.proofs.answers.choose.Given as goal

abbrev pub invariant-loop-value : goal.invariant-loop-value
invariant-loop-value l = chosen_of (drop l.value-index l.values) ≡ chosen_of l.values
