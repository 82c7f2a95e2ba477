use Rattle.std.proofs.Common.{◌≡◌, ◌++◌, length}
use Rattle.std.specs.List.{flat_map}
use Rattle.sg_mikey.specs.Spelling.{entry_octets}
use Rattle.sg_mikey.proofs.printing.put_entries.Given as goal

abbrev pub invariant-loop-rest : goal.invariant-loop-rest
invariant-loop-rest l = l.out.items ++ flat_map entry_octets l.rest ≡ l.fn.out.items ++ flat_map entry_octets l.entries

abbrev pub decreases-loop-rest : goal.decreases-loop-rest
decreases-loop-rest l = length l.rest
