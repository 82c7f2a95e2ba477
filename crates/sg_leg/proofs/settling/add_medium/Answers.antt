use Rattle.std.proofs.Common.{ℕ, ◌+◌, ◌∷◌, [], Some, subst}
use Rattle.std.specs.Vec.{vec_len}
use Rattle.sg_agreement.specs.Generations.{sessions_from}
use Rattle.sg_leg.specs.Planned.{ArePlanned, planned_sides}
use Rattle.sg_leg.proofs.Planning.{next_some}
use Rattle.sg_leg.proofs.settling.add_medium.Goals as goal

pub returns-clause-next : goal.returns-clause-next
returns-clause-next c =
    let (these, added, of_medium) = c.add_sides.ensures.added in
    next_some c.args.m c.args.first (vec_len c.args.keys.now) (vec_len c.add_medium_keys.new.out) c.args.medium.now (planned_sides c.args.sides.now.items) (planned_sides c.add_sides.new.sides.items) these added
    c.in_ok-add_medium_keys.ensures.count
    (subst (λ n. (call generation : ℕ) → ArePlanned these (sessions_from call generation c.args.m (c.args.first + n) (Some c.args.medium.now ∷ []))) c.len.ensures of_medium)
