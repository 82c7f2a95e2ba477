use Rattle.std.proofs.Common.{◌≡◌, ◌++◌, ◌+◌, map, drop}
use Rattle.std.specs.Vec.{vec_len}
use Rattle.sg_agreement.specs.Streams.{line_key}
use Rattle.sg_keys.specs.Reused.{given}
use Rattle.sg_leg.specs.FreshKeys.{ring_keys}
use Rattle.sg_leg.proofs.settling.add_keys.Given as goal

abbrev pub invariant-loop-key : goal.invariant-loop-key
invariant-loop-key l =
    (map given l.out.items ++ ring_keys (map line_key (drop l.key-index l.keys)) ≡ map given l.fn.out.items ++ ring_keys (map line_key l.keys))
    × (vec_len l.out ≡ vec_len l.fn.out + l.key-index)
