use Rattle.std.proofs.Common.{◌≡◌, ◌∙◌, ap, map, sym, subst, List, Some, ◌∷◌, ◌++◌, []}
use Rattle.sg_agreement.specs.Generations.{sessions_from}
use Rattle.sg_keys.specs.Reused.{given}
use Rattle.sg_session.specs.Ring.{RingKey}
use Rattle.sg_leg.specs.FreshKeys.{media_keys}
use Rattle.sg_leg.specs.Planned.{ArePlanned, planned_sides}
use Rattle.sg_leg.proofs.Installs.{new, new_keys, settled, unsettled}
use Rattle.sg_leg.proofs.settling.settle_one.Goals as goal

pub returns-in-Ok-install-clause-keyed : goal.returns-in-Ok-install-clause-keyed
returns-in-Ok-install-clause-keyed c = λ call generation old stand.
    let keys : List RingKey = map given c.deref.result.now in
    let are : keys ≡ media_keys (Some c.args.medium.now ∷ []) = ap (map given) c.deref.ensures.value ∙ c.in-Ok.ensures.given ∙ ap (λ l. map given l ++ media_keys (Some c.args.medium.now ∷ [])) c.new-keys.ensures.items in
    let (these, added, of_medium) = c.add_sides.ensures.added in
    let alone : planned_sides c.add_sides.new.sides.items ≡ these = added ∙ ap (λ l. planned_sides l ++ these) c.in-Ok-with_capacity.ensures.items in
    settled call generation old (Some c.args.medium.now ∷ []) keys c.args.ring.now c.install.new.ring stand are (planned_sides c.add_sides.new.sides.items) c.count.result
    (c.in-Ok-install.ensures.installs old (new call generation old (Some c.args.medium.now ∷ []) keys c.args.ring.now c.install.new.ring stand are) stand
    (new_keys call generation old (Some c.args.medium.now ∷ []) keys c.args.ring.now c.install.new.ring stand are))
    c.in-Ok-install.ensures.ok c.count.ensures.same
    (subst (λ l. ArePlanned l (sessions_from call generation 0 c.count.result (Some c.args.medium.now ∷ []))) (sym alone) (of_medium call generation))

pub returns-clause-keyed : goal.returns-clause-keyed
returns-clause-keyed c = λ call generation old stand.
    let keys : List RingKey = map given c.deref.result.now in
    let are : keys ≡ media_keys (Some c.args.medium.now ∷ []) = ap (map given) c.deref.ensures.value ∙ c.in-Ok.ensures.given ∙ ap (λ l. map given l ++ media_keys (Some c.args.medium.now ∷ [])) c.new-keys.ensures.items in
    unsettled call generation old (Some c.args.medium.now ∷ []) keys c.args.ring.now c.install.new.ring stand are c.in-Err.fault
    (c.in-Err.ensures.installs old (new call generation old (Some c.args.medium.now ∷ []) keys c.args.ring.now c.install.new.ring stand are) stand
    (new_keys call generation old (Some c.args.medium.now ∷ []) keys c.args.ring.now c.install.new.ring stand are))
