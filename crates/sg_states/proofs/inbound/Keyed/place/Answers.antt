use Rattle.std.proofs.Common.{◌≡◌, ap, sym, ◌∙◌}
use Rattle.sg_base.specs.declared.addresses.Kind.TheVariants.{Rtp}
use Rattle.sg_states.specs.Inbound.{Keying}
use Rattle.sg_states.specs.Placing.{placed}
use Rattle.sg_states.proofs.inbound.Keyed.place.Goals as goal

pub returns-in-Err-clause-answer : goal.returns-in-Err-clause-answer
returns-in-Err-clause-answer c = λ ssrc roc window indices s.
    let number : c.args.self.headed.head.number ≡ c.number.result = sym (c.number.ensures.value ∙ ap (λ (k : Keying). k.headed.head.number) c.self.view_is) in
    (λ i. placed Rtp roc window indices (number i)) ∙ sym (c.in-Err.ensures.answer ssrc roc window indices s)
