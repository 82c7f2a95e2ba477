use Rattle.std.proofs.Common.{◌∙◌, ◌≡◌, ◌+◌, ◌∷◌, [], ap, subst, length}
use Rattle.sg_agreement.specs.Media.{Medium}
use Rattle.sg_base.specs.declared.addresses.Kind.TheVariants.{Rtp, Rtcp}
use Rattle.sg_session.specs.declared.names.Direction.TheVariants.{Opening, Sealing}
use Rattle.sg_leg.specs.Planned.{IsMadeFor, planned_for, planned_sides}
use Rattle.sg_leg.proofs.Planning.{pushed, with_all}
use Rattle.sg_leg.proofs.media.AgreedMedium.add_all.Goals as goal

pub returns-clause-added : goal.returns-clause-added
returns-clause-added c =
    let x = c.args.self.now in
    let second : c.args.first + c.count.result ≡ c.args.first + length x.from_peer.keys = ap (λ k. c.args.first + k) (c.count.ensures ∙ ap (λ (x : Medium). length x.from_peer.keys) c.self.view_is) in
    let (a, added_a, opens) = c.add_opening.ensures.added in
    let (b, added_b, opens_too) = c.add_opening-2.ensures.added in
    let (s, added_s, seals) = c.add_sealing.ensures.added in
    let (d, added_d, seals_too) = c.add_sealing-2.ensures.added in
    let open_rtp = planned_for x c.args.medium Opening a in
    let open_rtcp = planned_for x c.args.medium Opening b in
    let seal_rtp = planned_for x c.args.medium Sealing s in
    let seal_rtcp = planned_for x c.args.medium Sealing d in
    let before = planned_sides c.args.sides.now.items in
    let first = planned_sides c.add_opening.new.sides.items in
    let two = planned_sides c.add_opening-2.new.sides.items in
    let three = planned_sides c.add_sealing.new.sides.items in (
      open_rtp ∷ open_rtcp ∷ seal_rtp ∷ seal_rtcp ∷ [],
      pushed before three (planned_sides c.add_sealing-2.new.sides.items) (open_rtp ∷ open_rtcp ∷ seal_rtp ∷ []) seal_rtcp
          (pushed before two three (open_rtp ∷ open_rtcp ∷ []) seal_rtp (pushed before first two (open_rtp ∷ []) open_rtcp added_a added_b) added_s) added_d,
      λ call generation. with_all x call generation c.args.medium c.args.first a s opens (subst (λ n. IsMadeFor x.to_peer Rtp n 1024 s) second seals)
          b d opens_too (subst (λ n. IsMadeFor x.to_peer Rtcp n 1024 d) second seals_too) c.requires.rtcp,
    )
