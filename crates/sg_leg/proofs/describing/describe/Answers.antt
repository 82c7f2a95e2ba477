use Rattle.std.proofs.Common.{◌∙◌, Ok, Err, sym, subst}
use Rattle.sg_agreement.specs.Described.{described}
use Rattle.sg_leg.specs.Answering.{Tells}
use Rattle.sg_agreement.proofs.LineNumbers.{lines_fit}
use Rattle.sg_leg.proofs.Described.{described_as, unread}
use Rattle.sg_leg.proofs.describing.describe.Goals as goal

pub refusal_in-requires : goal.refusal_in-requires
refusal_in-requires c = record { lines = lines_fit _ c.args.text.now c.in-Ok.ensures.found.2 c.in-Ok.ensures.found.1.whole }

pub returns-in-None-clause-described : goal.returns-in-None-clause-described
returns-in-None-clause-described c = described_as c.args.side c.args.count c.args.text.now (Ok c.in-Ok.sdp) c.in-Ok.ensures.exact ∙ c.in-None.ensures

pub returns-in-Some-clause-described : goal.returns-in-Some-clause-described
returns-in-Some-clause-described c = described_as c.args.side c.args.count c.args.text.now (Ok c.in-Ok.sdp) c.in-Ok.ensures.exact ∙ c.in-Some.ensures

pub returns-in-Err-clause-described : goal.returns-in-Err-clause-described
returns-in-Err-clause-described c =
    subst (λ f. Tells (Err f) (described c.args.side c.args.count c.args.text.now)) (sym c.text_fault.ensures) (unread c.args.side c.args.count c.args.text.now c.in-Err.fault c.in-Err.ensures.exact)
