use Rattle.std.proofs.Common.{◌≡◌, ◌∙◌, sym, subst}
use Rattle.std.specs.Prelude.{IfOk}
use Rattle.sg_psk.proofs.PairLemmas.{same_pair}
use Rattle.sg_psk.specs.Sending.{response_octets}
use Rattle.sg_psk.specs.StandsFor.{accepted_as}
use Rattle.sg_psk.proofs.sending.respond.Goals as goal

pub returns : goal.returns
returns c = λ pair at.
    subst (λ p. IfOk c.response_under.result (λ o. o ≡ response_octets (accepted_as c.args.initial.now p) c.args.ssrcs.now))
    (same_pair _ _ (sym c.pair.ensures ∙ at)) c.response_under.ensures
