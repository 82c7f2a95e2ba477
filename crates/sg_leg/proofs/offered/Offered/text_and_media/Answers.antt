use Rattle.std.proofs.Common.{sym, subst}
use Rattle.sg_agreement.specs.Answers.{Answered}
use Rattle.sg_leg.specs.Open.{AreAddressed}
use Rattle.sg_leg.specs.Values.{OfferedValue}
use Rattle.sg_leg.proofs.offered.Offered.text_and_media.Goals as goal

pub media_agreed-requires-clause-addressed : goal.media_agreed-requires-clause-addressed
media_agreed-requires-clause-addressed c =
    subst (λ ms. AreAddressed ms c.as_slice.result.now c.as_slice-media.result.now) (sym c.as_slice-offered.ensures)
    (subst (λ ns. AreAddressed c.self.inside.description.media ns c.as_slice-media.result.now) (sym c.as_slice.ensures)
    (subst (λ ks. AreAddressed c.self.inside.description.media c.args.answer.now.media ks) (sym c.as_slice-media.ensures)
    (subst (λ (o : OfferedValue). AreAddressed o.description.media c.args.answer.now.media c.keyed.inside.media) (sym c.self.view_is)
    (subst (λ (a : Answered). AreAddressed c.args.self.now.description.media c.args.answer.now.media a.media) (sym c.keyed.view_is) c.requires.addressed))))
