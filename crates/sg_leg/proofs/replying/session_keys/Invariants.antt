use Rattle.std.proofs.Common.{◌≡◌, ◌++◌, map, drop, length}
use Rattle.sg_agreement.specs.Streams.{line_key, session_key}
use Rattle.sg_leg.proofs.replying.session_keys.Given as goal

abbrev pub invariant-loop-key : goal.invariant-loop-key
invariant-loop-key l = (map line_key l.list.items ++ map session_key (drop l.key-index l.keys) ≡ map session_key l.keys) × (length l.list.items ≡ l.key-index)
