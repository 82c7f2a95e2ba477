use Rattle.std.proofs.Common.{◌≡◌, ◌++◌, take, drop, map}
use Rattle.sg_keys.specs.Reused.{given, reused}
use Rattle.sg_keys.proofs.search.first_reused.Given as goal

abbrev pub invariant-loop-i : goal.invariant-loop-i
invariant-loop-i l = reused (l.ring ++ map given (take l.i l.keys)) (map given (drop l.i l.keys)) ≡ reused l.ring (map given l.keys)
