use Rattle.std.proofs.Common.{◌≡◌, ◌++◌, take}
use Rattle.std.specs.List.{flat_map}
use Rattle.sg_sdes.specs.CryptoText.{next_key}
use Rattle.sg_sdes.proofs.printing.push_others.Given as goal

abbrev pub invariant-loop-key : goal.invariant-loop-key
invariant-loop-key l = l.out.items ≡ l.initial.out.items ++ flat_map next_key (take l.key-index l.keys)
