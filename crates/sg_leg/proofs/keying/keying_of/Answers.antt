use Rattle.std.proofs.Common.{subst, Ok}
use Rattle.sg_agreement.specs.EachMedium.{each_active}
use Rattle.sg_agreement.specs.Keying.{OwnLines}
use Rattle.sg_agreement.specs.Offers.{noise_of}
use Rattle.sg_base.specs.declared.addresses.Side.TheVariants.{Plain}
use Rattle.sg_sdes.specs.Answers.{offered_by}
use Rattle.sg_session.specs.Stages.{after_ok}
use Rattle.sg_leg.specs.Answering.{Gives}
use Rattle.sg_leg.specs.Open.{IsOpeningOf}
use Rattle.sg_leg.proofs.Opened.{by_own}
use Rattle.sg_leg.proofs.keying.keying_of.Goals as goal

pub returns-in-SdesFromPlain-clause-keying : goal.returns-in-SdesFromPlain-clause-keying
returns-in-SdesFromPlain-clause-keying c = λ h at noise.
    by_own h c.args.sdp.now c.args.way.now c.args.psks.now c.args.noise.now c.by_own_lines.result c.in-SdesFromPlain.is noise
    (subst (λ ms. Gives (IsOpeningOf c.args.psks.now) c.by_own_lines.result (after_ok (each_active Plain (λ k m. Ok (offered_by (noise_of k c.args.noise.now))) 0 ms) (λ lines. Ok (OwnLines lines)))) c.as_slice-media.ensures
    (c.by_own_lines.ensures.keying c.args.psks.now))
