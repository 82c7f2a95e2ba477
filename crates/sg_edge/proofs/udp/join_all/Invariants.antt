use Rattle.std.proofs.Common.{◌≡◌, ◌++◌, ℕ, List}
use Rattle.sg_edge.specs.Ports.{AreSame}
use Rattle.sg_edge.proofs.udp.join_all.Given as goal

abbrev pub invariant-loop-event : goal.invariant-loop-event
invariant-loop-event l =
    (goal.iterator-loop-event).can_next l.event-iterator
    × (goal.iterator-loop-event).is_finite l.event-iterator
    × AreSame l.fn.ports.bound l.ports.bound
    × (l.ports.row ≡ l.fn.ports.row)
    × ((more : List ℕ) × (l.ports.waiting.items ≡ l.fn.ports.waiting.items ++ more))
