use Rattle.std.proofs.Common.{◌≡◌, ◌++◌, length}
use Rattle.sg_mikey.specs.Spelling.{chain_octets}
use Rattle.sg_mikey.proofs.printing.put_chain.Given as goal

abbrev pub invariant-loop-rest : goal.invariant-loop-rest
invariant-loop-rest l = l.out.items ++ chain_octets l.rest ≡ l.fn.out.items ++ chain_octets l.payloads

abbrev pub decreases-loop-rest : goal.decreases-loop-rest
decreases-loop-rest l = length l.rest
