use Rattle.std.proofs.Common.{◌≡◌, length}
use Rattle.sg_sdes.specs.Keys.{all_differ}
use Rattle.sg_sdes.proofs.distinct.all_differ.Given as goal

abbrev pub invariant-loop-rest : goal.invariant-loop-rest
invariant-loop-rest l = all_differ l.rest ≡ all_differ l.keys

abbrev pub decreases-loop-rest : goal.decreases-loop-rest
decreases-loop-rest l = length l.rest
