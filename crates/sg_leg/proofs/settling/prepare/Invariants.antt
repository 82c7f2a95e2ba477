use Rattle.std.proofs.Common.{◌≡◌, ◌≤◌, ◌*◌, ◌++◌, drop, map}
use Rattle.std.specs.Vec.{vec_len, vec_capacity}
use Rattle.sg_keys.specs.Reused.{given}
use Rattle.sg_leg.specs.FreshKeys.{media_keys}
use Rattle.sg_leg.specs.Planned.{planned_sides}
use Rattle.sg_leg.proofs.Planning.{WillBePlanned}
use Rattle.sg_leg.proofs.settling.prepare.Given as goal

abbrev pub invariant-loop-m : goal.invariant-loop-m
invariant-loop-m l =
    (map given l.keys.items ++ media_keys (drop l.m l.media) ≡ media_keys l.media)
    × WillBePlanned l.m l.first l.media (planned_sides l.sides.items) (vec_len l.keys) (drop l.m l.media)
    × (vec_len l.sides ≤ 4 * l.m) × (vec_capacity l.sides ≡ 16) × (vec_len l.keys ≤ 16 * l.m)
