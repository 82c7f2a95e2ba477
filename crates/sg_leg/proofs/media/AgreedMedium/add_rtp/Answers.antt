use Rattle.std.proofs.Common.{◌∙◌, ◌≡◌, ◌+◌, ◌∷◌, [], ap, subst, length}
use Rattle.sg_agreement.specs.Media.{Medium}
use Rattle.sg_base.specs.declared.addresses.Kind.TheVariants.{Rtp}
use Rattle.sg_session.specs.declared.names.Direction.TheVariants.{Opening, Sealing}
use Rattle.sg_leg.specs.Planned.{IsMadeFor, planned_for, planned_sides}
use Rattle.sg_leg.proofs.Planning.{pushed, without}
use Rattle.sg_leg.proofs.media.AgreedMedium.add_rtp.Goals as goal

pub returns-clause-added : goal.returns-clause-added
returns-clause-added c =
    let x = c.args.self.now in
    let second : c.args.first + c.count.result ≡ c.args.first + length x.from_peer.keys = ap (λ k. c.args.first + k) (c.count.ensures ∙ ap (λ (x : Medium). length x.from_peer.keys) c.self.view_is) in
    let (a, added_a, opens) = c.add_opening.ensures.added in
    let (s, added_s, seals) = c.add_sealing.ensures.added in
    let open_rtp = planned_for x c.args.medium Opening a in
    let seal_rtp = planned_for x c.args.medium Sealing s in (
      open_rtp ∷ seal_rtp ∷ [],
      pushed (planned_sides c.args.sides.now.items) (planned_sides c.add_opening.new.sides.items) (planned_sides c.add_sealing.new.sides.items) (open_rtp ∷ []) seal_rtp added_a added_s,
      λ call generation. without x call generation c.args.medium c.args.first a s opens (subst (λ n. IsMadeFor x.to_peer Rtp n 1024 s) second seals) c.requires.no_rtcp,
    )
