use Rattle.std.proofs.Common.{◌≡◌, ◌<◌, arith, ap, subst, sym, ◌∙◌}
use Rattle.sg_base.specs.declared.addresses.Kind.TheVariants.{Rtcp}
use Rattle.sg_states.specs.Inbound.{Keying}
use Rattle.sg_states.specs.Parts.{IsNumber}
use Rattle.sg_states.specs.Placing.{fresh_in}
use Rattle.sg_states.proofs.inbound.Keyed.place_carried.Goals as goal

pub returns-in-Ok-clause-bound : goal.returns-in-Ok-clause-bound
returns-in-Ok-clause-bound c =
    let kind : c.self.inside.headed.kind ≡ Rtcp = ap (λ (k : Keying). k.headed.kind) c.self.view_is ∙ c.requires.rtcp in
    let short : c.number.result < 2147483648 = subst (λ k. IsNumber k c.number.result) kind c.number.ensures.fits in
    omega (arith, c.in-Ok.ensures.same, c.from.ensures, short)

pub returns-in-Ok-clause-answer : goal.returns-in-Ok-clause-answer
returns-in-Ok-clause-answer c = λ ssrc roc window indices s.
    let number : c.args.self.headed.head.number ≡ c.from.result = sym (c.from.ensures ∙ c.number.ensures.value ∙ ap (λ (k : Keying). k.headed.head.number) c.self.view_is) in
    ap (fresh_in window indices) number ∙ sym (c.in-Ok.ensures.answer ssrc roc window indices s)

pub returns-in-Err-clause-answer : goal.returns-in-Err-clause-answer
returns-in-Err-clause-answer c = λ ssrc roc window indices s.
    let number : c.args.self.headed.head.number ≡ c.from.result = sym (c.from.ensures ∙ c.number.ensures.value ∙ ap (λ (k : Keying). k.headed.head.number) c.self.view_is) in
    ap (fresh_in window indices) number ∙ sym (c.in-Err.ensures.answer ssrc roc window indices s)
