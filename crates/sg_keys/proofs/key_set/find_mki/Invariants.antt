use Rattle.std.proofs.Common.{◌≡◌, find, drop}
use Rattle.sg_keys.specs.Live.{has_mki}
use Rattle.sg_keys.proofs.key_set.find_mki.Given as goal

abbrev pub invariant-loop-position : goal.invariant-loop-position
invariant-loop-position l = find (has_mki l.mki) (drop l.position l.keys) ≡ find (has_mki l.mki) l.keys
