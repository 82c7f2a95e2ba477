use Rattle.std.proofs.Common.{◌≡◌, ◌+◌, length, vec_len, vec_capacity}
use Rattle.sg_call.specs.Adding.{Adds}
use Rattle.sg_leg.specs.Planned.{planned_sides}
use Rattle.sg_call.proofs.making.add_all.Given as goal

abbrev pub invariant-loop-side : goal.invariant-loop-side
invariant-loop-side l = Adds l.slot (planned_sides l.yielded) l.fn.routes.items l.routes.items × (vec_len l.routes ≡ vec_len l.fn.routes + length l.yielded) × (vec_capacity l.routes ≡ vec_capacity l.fn.routes)
