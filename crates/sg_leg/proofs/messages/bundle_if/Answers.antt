use Rattle.std.proofs.Common.{◌≡◌, ◌∙◌, sym, subst, Ok}
use Rattle.sg_agreement.specs.Attributes.{mikey_value}
use Rattle.sg_agreement.specs.Messages.{Bundle, bundle_in}
use Rattle.sg_agreement.specs.Sides.{is_active}
use Rattle.sg_base.specs.declared.addresses.Side.TheVariants.{Secure}
use Rattle.sg_leg.specs.Open.{IsBundleOf}
use Rattle.sg_leg.proofs.Read.{one_bundle}
use Rattle.sg_leg.proofs.messages.bundle_if.Goals as goal

pub returns-in-Ok-clause-bundle : goal.returns-in-Ok-clause-bundle
returns-in-Ok-clause-bundle c = λ h at.
    one_bundle h c.args.psks.now 1 c.args.m (mikey_value c.args.medium.now.lines) (is_active Secure c.args.medium.now) c.in-Ok.bundle (sym c.is_active.ensures ∙ c.if-not-is_active.false)
    (subst (λ l. (b : Bundle) × (bundle_in h c.args.m 1 (mikey_value l) ≡ Ok b) × IsBundleOf c.args.psks.now c.in-Ok.bundle b) c.as_slice.ensures (c.in-Ok.ensures.bundle h at))
