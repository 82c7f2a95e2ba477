use Rattle.std.proofs.Common.{◌≡◌, ◌+◌, drop, map}
use Rattle.sg_keys.specs.Reused.{given, first_from}
use Rattle.sg_keys.proofs.search.first_new.Given as goal

abbrev pub invariant-loop-i : goal.invariant-loop-i
invariant-loop-i l = first_from (l.start + l.i) (map given (drop l.i l.keys)) l.key ≡ first_from l.start (map given l.keys) l.key
