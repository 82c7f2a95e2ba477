use Rattle.std.proofs.Common.{◌∙◌, ap, subst, Some, [], ◌∷◌, ◌+◌}
use Rattle.sg_agreement.specs.Generations.{sessions_from}
use Rattle.sg_agreement.specs.Media as agreed
use Rattle.sg_base.specs.declared.addresses.Kind.TheVariants.{Rtp}
use Rattle.sg_session.specs.declared.names.Direction.TheVariants.{Opening, Sealing}
use Rattle.sg_leg.specs.Pairs.{EachPair}
use Rattle.sg_leg.specs.Planned.{IsPlanned, IsMadeFor}
use Rattle.sg_leg.proofs.Planning.{one, without}
use Rattle.sg_leg.proofs.media.AgreedMedium.rtp_alone.Goals as goal

pub returns : goal.returns
returns c = λ call generation.
    let v : agreed.Medium = record { from_peer = c.self.inside.from_peer; to_peer = c.self.inside.to_peer; window = c.self.inside.window; has_rtcp = c.self.inside.has_rtcp; secure = c.self.inside.secure; plain = c.self.inside.plain } in
    subst (λ (x : agreed.Medium). EachPair IsPlanned
    (one v call generation c.args.medium c.args.first Opening c.spec-open_rtp.result ∷ one v call generation c.args.medium c.args.first Sealing c.spec-seal_rtp.result ∷ [])
    (sessions_from call generation c.args.medium c.args.first (Some x ∷ []))) c.self.view_is
    (without v call generation c.args.medium c.args.first c.spec-open_rtp.result c.spec-seal_rtp.result c.spec-open_rtp.ensures.made
    (subst (λ n. IsMadeFor c.self.inside.to_peer Rtp n 1024 c.spec-seal_rtp.result) (ap (λ k. c.args.first + k) c.count.ensures) c.spec-seal_rtp.ensures.made)
    (ap (λ (x : agreed.Medium). x.has_rtcp) c.self.view_is ∙ c.requires.no_rtcp))
