use Rattle.std.proofs.Common.{subst, ap, ◌∙◌, ◌∷◌, [], Ok}
use Rattle.sg_agreement.specs.Attributes.{ssrcs_of}
use Rattle.sg_agreement.specs.CarriedTexts.{mikey_attribute}
use Rattle.sg_agreement.specs.Keying.{OwnMessage}
use Rattle.sg_base.specs.declared.addresses.Side.TheVariants.{Plain}
use Rattle.sg_psk.specs.Pairs.{pair_with}
use Rattle.sg_psk.specs.Sending.{sent_under}
use Rattle.sg_psk.specs.StandsFor as psk
use Rattle.sg_psk.specs.StandsFor.{AreSent}
use Rattle.sg_leg.proofs.Read.{own_sent}
use Rattle.sg_leg.proofs.messages.by_own_message.Goals as goal

pub returns-clause-keying : goal.returns-clause-keying
returns-clause-keying c =
    let p = own_sent c.args.psks.now c.in-Ok.sent (sent_under c.args.now c.args.noise.now (ssrcs_of Plain c.args.media.now) (pair_with c.args.psks.now c.args.peer.now))
    (subst (λ ss. psk.Gives (AreSent c.args.psks.now) (Ok c.in-Ok.sent) (sent_under c.args.now c.args.noise.now ss (pair_with c.args.psks.now c.args.peer.now))) (c.as_slice.ensures.value ∙ c.ssrcs_of-ssrcs.ensures) c.in-Ok.ensures.value) in (
      OwnMessage p.0,
      p.1,
      record {
        keying = p.2.1;
        session = c.in-Ok-mikey_lines.ensures ∙ ap (λ o. mikey_attribute o ∷ []) (c.as_slice-2.ensures ∙ p.2.0);
        media = c.new.ensures.items;
      },
    )
