use Rattle.std.proofs.Common.{◌≡◌, ◌++◌, take, map}
use Rattle.sg_keys.specs.Reused.{given}
use Rattle.sg_keys.proofs.ring.push_all.Given as goal

abbrev pub invariant-loop-key : goal.invariant-loop-key
invariant-loop-key l = l.list.items ≡ l.initial.list.items ++ map given (take l.key-index l.keys)
