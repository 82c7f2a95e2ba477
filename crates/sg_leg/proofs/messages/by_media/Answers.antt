use Rattle.sg_agreement.specs.Attributes.{mikey_value}
use Rattle.sg_agreement.specs.EachMedium.{each_active}
use Rattle.sg_agreement.specs.Keying.{PeerMessages}
use Rattle.sg_agreement.specs.Messages.{bundle_in}
use Rattle.sg_base.specs.declared.addresses.Side.TheVariants.{Secure}
use Rattle.sg_leg.specs.Open.{IsBundleIf}
use Rattle.sg_leg.specs.Pairs.{EachPair}
use Rattle.sg_leg.proofs.Read.{opened_with}
use Rattle.sg_leg.proofs.messages.by_media.Goals as goal

pub returns-in-Ok-clause-keying : goal.returns-in-Ok-clause-keying
returns-in-Ok-clause-keying c = λ h at.
    let p = opened_with (EachPair (IsBundleIf c.args.psks.now)) PeerMessages c.in-Ok.bundles (each_active Secure (λ k m. bundle_in h k 1 (mikey_value m.lines)) 0 c.args.media.now) (c.in-Ok.ensures.bundles h at) in
    (PeerMessages p.0, p.1, record { keying = p.2; session = c.new.ensures; media = c.new-in-Ok.ensures.items })
