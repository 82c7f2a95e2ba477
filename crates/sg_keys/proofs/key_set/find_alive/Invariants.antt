use Rattle.std.proofs.Common.{◌≡◌, find, drop}
use Rattle.sg_keys.specs.Live.{is_alive}
use Rattle.sg_keys.proofs.key_set.find_alive.Given as goal

abbrev pub invariant-loop-position : goal.invariant-loop-position
invariant-loop-position l = find is_alive (drop l.position l.keys) ≡ find is_alive l.keys
