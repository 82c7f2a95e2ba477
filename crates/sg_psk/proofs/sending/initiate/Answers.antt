use Rattle.std.proofs.Common.{◌∙◌, ap, sym, subst}
use Rattle.std.specs.Prelude.{IsSome, refl}
use Rattle.sg_psk.proofs.AcceptLemmas.{anyway}
use Rattle.sg_psk.specs.Pairs.{pair_with}
use Rattle.sg_psk.specs.Sending.{sent_under}
use Rattle.sg_psk.specs.StandsFor.{AreSent, Gives}
use Rattle.sg_psk.proofs.sending.initiate.Goals as goal

pub returns-in-Some-clause-value : goal.returns-in-Some-clause-value
returns-in-Some-clause-value c =
    subst (λ o. Gives (AreSent c.args.book.now) c.sent_under.result (sent_under c.args.now c.args.noise.now c.args.ssrcs.now o))
    (sym (sym (ap (pair_with c.args.book.now) c.as_slice.ensures.value) ∙ c.in-Some.ensures.1 ∙ c.pair.ensures)) (c.sent_under.ensures c.args.book.now c.pair.ensures)

pub returns-in-Some-clause-needs : goal.returns-in-Some-clause-needs
returns-in-Some-clause-needs c =
    anyway c.sent_under.result
    (subst IsSome (sym (sym (ap (pair_with c.args.book.now) c.as_slice.ensures.value) ∙ c.in-Some.ensures.1 ∙ c.pair.ensures)) refl)

pub returns-in-None-clause-value : goal.returns-in-None-clause-value
returns-in-None-clause-value c =
    ap (sent_under c.args.now c.args.noise.now c.args.ssrcs.now) (sym (ap (pair_with c.args.book.now) c.as_slice.ensures.value) ∙ c.in-None.ensures)
