use Rattle.std.proofs.Common.{◌≡◌, ◌++◌, map}
use Rattle.sg_keys.specs.PreparedKey.{live_of}
use Rattle.sg_keys.proofs.key_set.KeySet.make.Given as goal

abbrev pub invariant-loop-key : goal.invariant-loop-key
invariant-loop-key l =
    (goal.iterator-loop-key).can_next l.key-iterator
    × (goal.iterator-loop-key).is_finite l.key-iterator
    × (l.prepared.items ++ map live_of l.key-iterator ≡ map live_of l.fn.keys.items)
