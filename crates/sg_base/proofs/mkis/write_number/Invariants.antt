use Rattle.std.proofs.Common.{◌≡◌, ◌≤◌, ◌++◌, drop, length}
use Rattle.sg_base.specs.Octets.{be}
use Rattle.sg_base.proofs.mkis.write_number.Given as goal

-- what is still to be written, and what was written behind it
abbrev pub invariant-loop-left : goal.invariant-loop-left
invariant-loop-left l = (l.left ≤ length l.part) × (be l.rest l.left ++ drop l.left l.part ≡ be l.fn.number (length l.fn.part))

abbrev pub decreases-loop-left : goal.decreases-loop-left
decreases-loop-left l = l.left
