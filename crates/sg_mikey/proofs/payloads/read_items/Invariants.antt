use Rattle.std.proofs.Common.{◌≡◌, ◌-◌}
use Rattle.sg_mikey.specs.Reading.{items_at}
use Rattle.sg_mikey.proofs.Loops.{with_prefix}
use Rattle.sg_mikey.proofs.payloads.read_items.Given as goal

abbrev pub invariant-loop : goal.invariant-loop
invariant-loop l = with_prefix l.items.items (items_at (l.size - l.counter) l.room l.rest) ≡ items_at l.size l.size l.octets
