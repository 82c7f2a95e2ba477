use Rattle.std.proofs.Common.{◌≡◌, ◌∙◌, true, ap, subst, replicate}
use Rattle.std.specs.Prelude.{IfOk}
use Rattle.sg_mikey.specs.Spelling.{message_octets}
use Rattle.sg_psk.specs.Sending.{initial_octets, payloads_of, sealed}
use Rattle.sg_psk.proofs.sending.initial_octets.Goals as goal

pub returns : goal.returns
unfolding initial_octets
returns c =
    let w = c.args.waiting.now in
    let map = c.in_ok-entries_of.ensures ∙ c.as_slice.ensures in
    let payloads = c.in_ok-initial_payloads.ensures ∙ ap (λ t. payloads_of c.args.pair.now w.random w.stamp t (replicate 20 0)) (c.deref.ensures.value ∙ c.in_ok-text.ensures) in
    subst (λ t. IfOk c.sealed.result (λ o. o ≡ sealed c.args.pair.now.key w.csb w.random t))
    (λ i. message_octets (record { kind = 0; verify = true; csb = w.csb; map = map i; payloads = payloads i })) c.sealed.ensures
