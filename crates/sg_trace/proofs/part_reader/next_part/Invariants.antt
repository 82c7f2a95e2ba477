use Rattle.std.proofs.Common.{◌≡◌, ◌≤◌, ◌-◌, ◌+◌, length, List, ℕ, max, vec_len}
use Rattle.sg_trace.proofs.Common.{Moves, TookIn}
use Rattle.sg_trace.proofs.part_reader.next_part.Given as goal

abbrev pub invariant-loop-read_buffer : goal.invariant-loop-read_buffer
invariant-loop-read_buffer g l =
    ((got : List ℕ) × TookIn (g.S.Source.left l.fn.source) (g.S.Source.left l.source) got × Moves l.fn.read_buffer got l.read_buffer l.fn.part.items l.part.items × (length got + l.budget ≡ l.fn.budget))
    × (length l.part.items ≤ max l.fn.count (length l.fn.part.items)) × (g.S.Source.faults l.source ≡ g.S.Source.faults l.fn.source)
    × ((g.S.Source.left l.source).count + l.budget ≤ (g.S.Source.left l.fn.source).count + l.fn.budget)
    × (length l.fn.read_buffer ≤ 4096 → length l.read_buffer ≤ 4096)

abbrev pub decreases-loop-read_buffer : goal.decreases-loop-read_buffer
decreases-loop-read_buffer g l = l.fn.count - vec_len l.part
