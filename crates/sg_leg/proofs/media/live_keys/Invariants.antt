use Rattle.std.proofs.Common.{◌≡◌, ◌++◌, ◌+◌, map, drop, length}
use Rattle.sg_agreement.specs.Streams.{line_key}
use Rattle.sg_keys.specs.PreparedKey.{live_of}
use Rattle.sg_leg.specs.FreshKeys.{fresh_keys}
use Rattle.sg_leg.proofs.media.live_keys.Given as goal

abbrev pub invariant-loop-key : goal.invariant-loop-key
invariant-loop-key l =
    (map live_of l.list.items ++ fresh_keys l.kind l.number (map line_key (drop l.key-index l.keys)) ≡ fresh_keys l.kind l.first (map line_key l.keys))
    × (length l.list.items ≡ l.key-index) × (l.number ≡ l.first + l.key-index)
