use Rattle.std.proofs.Common.{◌∙◌, subst, ap, Ok}
use Rattle.sg_agreement.specs.Attributes.{mikey_value}
use Rattle.sg_agreement.specs.Keying.{PeerMessage}
use Rattle.sg_agreement.specs.Messages.{bundle_in}
use Rattle.sg_agreement.specs.Sides.{active_count}
use Rattle.sg_base.specs.declared.addresses.Side.TheVariants.{Secure}
use Rattle.sg_leg.specs.Answering.{Gives}
use Rattle.sg_leg.specs.Open.{IsBundleOf}
use Rattle.sg_leg.proofs.Read.{opened_with}
use Rattle.sg_leg.proofs.messages.by_session.Goals as goal

pub returns-in-Ok-clause-keying : goal.returns-in-Ok-clause-keying
returns-in-Ok-clause-keying c = λ h at.
    let p = opened_with (IsBundleOf c.args.psks.now) PeerMessage c.in-Ok.bundle (bundle_in h 255 (active_count Secure c.args.sdp.now.media) (mikey_value c.args.sdp.now.session))
    (subst (λ l. Gives (IsBundleOf c.args.psks.now) (Ok c.in-Ok.bundle) (bundle_in h 255 (active_count Secure c.args.sdp.now.media) (mikey_value l))) c.as_slice-2.ensures
    (subst (λ n. Gives (IsBundleOf c.args.psks.now) (Ok c.in-Ok.bundle) (bundle_in h 255 n (mikey_value c.as_slice-2.result.now))) (c.active_count-count.ensures.value ∙ ap (active_count Secure) c.as_slice.ensures) (c.in-Ok.ensures.bundle h at))) in
    (PeerMessage p.0, p.1, record { keying = p.2; session = c.new.ensures; media = c.new-in-Ok.ensures.items })
