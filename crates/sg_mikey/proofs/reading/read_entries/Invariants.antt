use Rattle.std.proofs.Common.{◌≡◌, ◌-◌}
use Rattle.sg_mikey.specs.Reading.{entries_at}
use Rattle.sg_mikey.proofs.Loops.{with_prefix}
use Rattle.sg_mikey.proofs.reading.read_entries.Given as goal

abbrev pub invariant-loop : goal.invariant-loop
invariant-loop l = with_prefix l.entries.items (entries_at (l.count - l.counter) l.rest) ≡ entries_at l.count l.octets
