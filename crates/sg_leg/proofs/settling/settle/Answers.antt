use Rattle.std.proofs.Common.{◌≡◌, ◌∙◌, ap, map, List}
use Rattle.sg_keys.specs.Reused.{given}
use Rattle.sg_session.specs.Ring.{RingKey}
use Rattle.sg_leg.specs.FreshKeys.{media_keys}
use Rattle.sg_leg.specs.Planned.{planned_sides}
use Rattle.sg_leg.proofs.Installs.{new, new_keys, settled, unsettled}
use Rattle.sg_leg.proofs.settling.settle.Goals as goal

pub returns-in-Ok-install-clause-keyed : goal.returns-in-Ok-install-clause-keyed
returns-in-Ok-install-clause-keyed c = λ call generation old stand.
    let keys : List RingKey = map given c.deref.result.now in
    let are : keys ≡ media_keys c.args.media.now = ap (map given) c.deref.ensures.value ∙ c.in-Ok.ensures.given in
    settled call generation old c.args.media.now keys c.args.ring.now c.install.new.ring stand are (planned_sides c.in-Ok.prepared.sides.items) c.count.result
    (c.in-Ok-install.ensures.installs old (new call generation old c.args.media.now keys c.args.ring.now c.install.new.ring stand are) stand
    (new_keys call generation old c.args.media.now keys c.args.ring.now c.install.new.ring stand are))
    c.in-Ok-install.ensures.ok c.count.ensures.same (c.in-Ok.ensures.planned call generation)

pub returns-in-Err-clause-keyed : goal.returns-in-Err-clause-keyed
returns-in-Err-clause-keyed c = λ call generation old stand.
    let keys : List RingKey = map given c.deref.result.now in
    let are : keys ≡ media_keys c.args.media.now = ap (map given) c.deref.ensures.value ∙ c.in-Ok.ensures.given in
    unsettled call generation old c.args.media.now keys c.args.ring.now c.install.new.ring stand are c.in-Err.fault
    (c.in-Err.ensures.installs old (new call generation old c.args.media.now keys c.args.ring.now c.install.new.ring stand are) stand
    (new_keys call generation old c.args.media.now keys c.args.ring.now c.install.new.ring stand are))
