use Rattle.std.proofs.Common.{◌≡◌, length}
use Rattle.sg_csmap.specs.Policies.{each_once}
use Rattle.sg_csmap.proofs.policies.each_once.Given as goal

abbrev pub invariant-loop-rest : goal.invariant-loop-rest
invariant-loop-rest l = each_once l.rest ≡ each_once l.items

abbrev pub decreases-loop-rest : goal.decreases-loop-rest
decreases-loop-rest l = length l.rest
