use Rattle.std.proofs.Common.{◌≡◌, length, drop, eqb}
use Rattle.std.specs.List.{slice_split}
use Rattle.sg_sdes.specs.Keys.{keys_from, keys_of}
use Rattle.sg_sdes.proofs.KeyLoop.{with_prefix}
use Rattle.sg_sdes.proofs.keys.read_keys.Given as goal

abbrev pub invariant-loop-part : goal.invariant-loop-part
invariant-loop-part l =
    (goal.iterator-loop-part).can_next l.part-iterator ×
    (goal.iterator-loop-part).is_finite l.part-iterator ×
    (length l.keys.items ≡ length l.yielded) ×
    (with_prefix l.keys.items (keys_from l.suite (length l.keys.items) (drop (length l.yielded) (slice_split (λ b. eqb b 59) l.text))) ≡ keys_of l.suite l.text)
