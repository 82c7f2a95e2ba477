use Rattle.std.proofs.Common.{◌≡◌, ℕ, ◌+◌, ◌<◌, ◌≤◌, Some}
use Rattle.sg_replay.specs.Row.{mark_of, mark_up_to}
use Rattle.sg_replay.proofs.marks.advance.Given as goal

-- the marks up to here are cleared
abbrev pub invariant-loop-k : goal.invariant-loop-k
invariant-loop-k l = (i : ℕ) → l.to < i + 1024 → i ≤ l.from + l.k → mark_of l.row i ≡ mark_up_to (Some l.from) l.fn.row i
