use Rattle.std.proofs.Common.{◌≡◌, take}
use Rattle.sg_sdes.proofs.inline_keys.clone_all.Given as goal

abbrev pub invariant-loop-key : goal.invariant-loop-key
invariant-loop-key l = l.items.items ≡ take l.key-index l.keys
