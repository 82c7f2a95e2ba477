use Rattle.std.proofs.Common.{◌∙◌, ap, subst, Some, Ok, Err, ◌∷◌, []}
use Rattle.sg_agreement.specs.Manual.{medium_under}
use Rattle.sg_agreement.specs.Media.{Medium}
use Rattle.sg_leg.specs.Installing.{IsKeyed}
use Rattle.sg_leg.specs.Planned.{planned_sides}
use Rattle.sg_leg.specs.Standing.{manual_live}
use Rattle.sg_leg.proofs.Installs.{begins}
use Rattle.sg_leg.proofs.idle.Idle.settle.Goals as goal

pub returns-in-Ok-clause-answer : goal.returns-in-Ok-clause-answer
returns-in-Ok-clause-answer c = λ call generation ring stand. (
  c.new.ensures ∙ ap manual_live c.self.view_is,
  begins call generation ring (Some (medium_under c.args.given.now.secure c.args.given.now.plain c.args.given.now.roc c.args.given.now.window c.args.given.now.from_peer.now c.args.given.now.to_peer.now) ∷ []) (Ok (planned_sides c.in-Ok.sides.items)) c.settle_one.new.ring
      (subst (λ (x : Medium). IsKeyed call generation ring (Some x ∷ []) (Ok (planned_sides c.in-Ok.sides.items)) c.settle_one.new.ring) c.manual_medium-medium.ensures.medium (c.in-Ok.ensures.keyed call generation ring stand)),
)

pub returns-in-Err-clause-answer : goal.returns-in-Err-clause-answer
returns-in-Err-clause-answer c = λ call generation ring stand.
    begins call generation ring (Some (medium_under c.args.given.now.secure c.args.given.now.plain c.args.given.now.roc c.args.given.now.window c.args.given.now.from_peer.now c.args.given.now.to_peer.now) ∷ []) (Err c.in-Err.fault) c.settle_one.new.ring
    (subst (λ (x : Medium). IsKeyed call generation ring (Some x ∷ []) (Err c.in-Err.fault) c.settle_one.new.ring) c.manual_medium-medium.ensures.medium (c.in-Err.ensures.keyed call generation ring stand))
