use Rattle.std.proofs.Common.{◌≡◌, ◌++◌, length}
use Rattle.sg_psk.specs.Sending.{own_map}
use Rattle.sg_psk.proofs.sending.own_map.Given as goal

abbrev pub invariant-loop-rest : goal.invariant-loop-rest
invariant-loop-rest l = l.map.items ++ own_map l.rest ≡ own_map l.ssrcs

abbrev pub decreases-loop-rest : goal.decreases-loop-rest
decreases-loop-rest l = length l.rest
