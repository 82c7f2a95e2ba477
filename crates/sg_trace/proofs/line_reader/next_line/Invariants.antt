use Rattle.std.proofs.Common.{◌≡◌, ◌≤◌, ◌-◌, ◌++◌, ◌+◌, length, List, ℕ, vec_len}
use Rattle.sg_trace.proofs.Common.{NoEnd, TookIn}
use Rattle.sg_trace.proofs.line_reader.next_line.Given as goal

abbrev pub invariant-loop-read_buffer : goal.invariant-loop-read_buffer
invariant-loop-read_buffer g l =
    ((got : List ℕ) × TookIn (g.S.Source.left l.fn.source) (g.S.Source.left l.source) got × (l.fn.read_buffer ++ got ≡ l.line.items ++ l.read_buffer) × (length got + l.budget ≡ l.fn.budget))
    × NoEnd l.line.items × (g.S.Source.faults l.source ≡ g.S.Source.faults l.fn.source)
    × ((g.S.Source.left l.source).count + l.budget ≤ (g.S.Source.left l.fn.source).count + l.fn.budget)
    × (length l.fn.read_buffer ≤ 4096 → (length l.read_buffer ≤ 4096) × (length l.line.items ≤ 70001))

abbrev pub decreases-loop-read_buffer : goal.decreases-loop-read_buffer
decreases-loop-read_buffer g l = 70001 - vec_len l.line
