use Rattle.std.proofs.Common.{◌≡◌, true, Ok, sym, subst}
use Rattle.std.specs.Prelude.{IfOk}
use Rattle.sg_agreement.specs.EachMedium.{if_kept}
use Rattle.sg_agreement.specs.MessageAnswers.{keyed_by_message, own_streams}
use Rattle.sg_leg.specs.Open.{IsBundleIf}
use Rattle.sg_leg.proofs.Replied.{some_bundle}
use Rattle.sg_leg.proofs.replying.by_message_if.Goals as goal

pub returns-in-Some : goal.returns-in-Some
returns-in-Some c = λ x is.
    let q = some_bundle c.args.psks.now c.in-Some.bundle x (subst (λ o. IsBundleIf c.args.psks.now o x) c.in-Some.is is) in
    subst (λ on. IfOk c.by_message.result (λ o. if_kept on (own_streams x) (λ x. Ok (keyed_by_message x c.args.answer.now)) ≡ Ok o)) (sym c.if-not-active.false)
    (subst (λ x. IfOk c.by_message.result (λ o. if_kept true (own_streams x) (λ x. Ok (keyed_by_message x c.args.answer.now)) ≡ Ok o)) (sym q.1) (c.by_message.ensures q.0 q.2))
