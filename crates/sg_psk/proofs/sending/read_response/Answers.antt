use Rattle.std.proofs.Common.{◌≡◌, ◌∙◌, sym, subst}
use Rattle.std.specs.Global.{Vec}
use Rattle.std.specs.Prelude.{IsOk}
use Rattle.sg_mikey.specs.declared.message.CsEntry.{CsEntry}
use Rattle.sg_psk.proofs.PairLemmas.{same_pair}
use Rattle.sg_psk.specs.Sending.{response_of}
use Rattle.sg_psk.specs.StandsFor.{Gives, OnNoMemory, sent_as}
use Rattle.sg_psk.proofs.sending.read_response.Goals as goal

pub returns-clause-value : goal.returns-clause-value
returns-clause-value c = λ pair at.
    subst (λ p. Gives {X = Vec CsEntry} (λ map entries. map.items ≡ entries) c.answer_under.result (response_of c.args.octets.now c.args.message.now (sent_as c.args.waiting.now p)))
    (same_pair _ _ (sym c.pair.ensures ∙ at)) c.answer_under.ensures.value

pub returns-clause-needs : goal.returns-clause-needs
returns-clause-needs c = λ pair at.
    subst (λ p. OnNoMemory c.answer_under.result (IsOk (response_of c.args.octets.now c.args.message.now (sent_as c.args.waiting.now p))))
    (same_pair _ _ (sym c.pair.ensures ∙ at)) c.answer_under.ensures.needs
