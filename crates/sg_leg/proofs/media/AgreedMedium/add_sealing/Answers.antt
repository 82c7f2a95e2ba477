use Rattle.std.proofs.Common.{◌∙◌, ◌++◌, ◌∷◌, [], ap, subst}
use Rattle.std.proofs.lemmas.List.{map-append}
use Rattle.sg_agreement.specs.Media.{Medium}
use Rattle.sg_session.specs.declared.names.Direction.TheVariants.{Sealing}
use Rattle.sg_leg.specs.Planned.{IsMadeFor, planned_for, planned_side, planned_sides}
use Rattle.sg_leg.proofs.media.AgreedMedium.add_sealing.Goals as goal

pub returns-clause-added : goal.returns-clause-added
returns-clause-added c = (
  c.spec-spec.result,
  ap planned_sides c.push_reserved.ensures.items ∙ map-append planned_side c.args.sides.now.items _
      ∙ ap (λ (x : Medium). planned_sides c.args.sides.now.items ++ planned_for x c.args.medium Sealing c.spec-spec.result ∷ []) c.self.view_is,
  subst (λ (x : Medium). IsMadeFor x.to_peer c.args.kind c.args.first 1024 c.spec-spec.result) c.self.view_is c.spec-spec.ensures.made,
)
