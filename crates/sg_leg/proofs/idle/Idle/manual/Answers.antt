use Rattle.std.proofs.Common.{◌∙◌, ap, subst, Some, Ok, Err, ◌∷◌, []}
use Rattle.sg_agreement.specs.Manual.{medium_under}
use Rattle.sg_agreement.specs.Media.{Medium}
use Rattle.sg_leg.specs.Installing.{IsKeyed}
use Rattle.sg_leg.specs.Planned.{planned_in}
use Rattle.sg_leg.specs.Standing.{manual_live}
use Rattle.sg_leg.proofs.Installs.{begins, keyed_as}
use Rattle.sg_leg.proofs.idle.Idle.manual.Goals as goal

pub returns-in-Ok-clause-answer : goal.returns-in-Ok-clause-answer
returns-in-Ok-clause-answer c = λ call generation ring stand. (
  c.new.ensures ∙ ap manual_live c.self.view_is,
  begins call generation ring (Some (medium_under c.args.secure c.args.plain c.args.roc c.args.window c.args.from_peer.now c.args.to_peer.now) ∷ []) (Ok (planned_in c.spec.result)) c.settle_one.new.ring
      (subst (λ (x : Medium). IsKeyed call generation ring (Some x ∷ []) (Ok (planned_in c.spec.result)) c.settle_one.new.ring) c.manual_medium-medium.ensures.medium
      (keyed_as call generation c.count-first.result ring (Some c.manual_medium-medium.result ∷ []) _ (planned_in c.spec.result) c.args.books.now.ring c.settle_one.new.ring stand c.count-first.ensures.same
      (c.in-Ok.ensures.keyed call generation ring stand) (c.spec.ensures call generation))),
)

pub returns-in-Err-clause-answer : goal.returns-in-Err-clause-answer
returns-in-Err-clause-answer c = λ call generation ring stand.
    begins call generation ring (Some (medium_under c.args.secure c.args.plain c.args.roc c.args.window c.args.from_peer.now c.args.to_peer.now) ∷ []) (Err c.in-Err.fault) c.settle_one.new.ring
    (subst (λ (x : Medium). IsKeyed call generation ring (Some x ∷ []) (Err c.in-Err.fault) c.settle_one.new.ring) c.manual_medium-medium.ensures.medium (c.in-Err.ensures.keyed call generation ring stand))
