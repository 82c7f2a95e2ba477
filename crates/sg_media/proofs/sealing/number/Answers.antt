use Rattle.std.proofs.Common.{◌≡◌, ℕ, Result, Ok, Err, ap, subst, sym, ◌∙◌}
use Rattle.sg_base.specs.declared.addresses.Kind.{Kind}
use Rattle.sg_base.specs.declared.faults.DropCause.{DropCause}
use Rattle.sg_states.specs.Outbound.{numbered}
use Rattle.sg_states.specs.Placing.{next_index}
use Rattle.sg_states.specs.Streams.{IsStreamOf}
use Rattle.sg_media.proofs.sealing.number.Goals as goal

pub number-requires-clause-of : goal.number-requires-clause-of
number-requires-clause-of c = subst (λ (kind : Kind). IsStreamOf c.args.stream.now kind c.args.headed.head.ssrc) (sym c.kind.ensures ∙ c.in-Rtp.is) c.requires

pub number_next-requires-clause-of : goal.number_next-requires-clause-of
number_next-requires-clause-of c = subst (λ (kind : Kind). IsStreamOf c.args.stream.now kind c.args.headed.head.ssrc) (sym c.kind.ensures ∙ c.in-Rtcp.is) c.requires

pub returns-in-Ok-clause-answer : goal.returns-in-Ok-clause-answer
returns-in-Ok-clause-answer c = λ ssrc roc window indices s.
    subst (λ (kind : Kind). next_index kind roc window indices c.args.headed.head.number ≡ Ok c.in-Ok.numbered.index) (sym c.in-Rtp.is ∙ c.kind.ensures)
    (c.in-Ok.ensures.answer ssrc roc window indices s)

pub returns-in-Err-clause-answer : goal.returns-in-Err-clause-answer
returns-in-Err-clause-answer c = λ ssrc roc window indices s.
    subst (λ (kind : Kind). numbered c.args.keys.now (next_index kind roc window indices c.args.headed.head.number) ≡ Err c.of_number.result) (sym c.in-Rtp.is ∙ c.kind.ensures)
    (c.in-Err.ensures.answer ssrc roc window indices s ∙ ap (λ x. let r : Result ℕ DropCause = Err x in r) (sym c.of_number.ensures))

pub returns-in-Ok-number_next-clause-answer : goal.returns-in-Ok-number_next-clause-answer
returns-in-Ok-number_next-clause-answer c = λ ssrc roc window indices s.
    subst (λ (kind : Kind). next_index kind roc window indices c.args.headed.head.number ≡ Ok c.in-Ok-number_next.numbered.index) (sym c.in-Rtcp.is ∙ c.kind.ensures)
    (c.in-Ok-number_next.ensures.answer ssrc roc window indices s)

pub returns-in-Err-number_next-clause-answer : goal.returns-in-Err-number_next-clause-answer
returns-in-Err-number_next-clause-answer c = λ ssrc roc window indices s.
    subst (λ (kind : Kind). numbered c.args.keys.now (next_index kind roc window indices c.args.headed.head.number) ≡ Err c.of_rtcp_number.result) (sym c.in-Rtcp.is ∙ c.kind.ensures)
    (c.in-Err-number_next.ensures.answer ssrc roc window indices s ∙ ap (λ x. let r : Result ℕ DropCause = Err x in r) (sym c.of_rtcp_number.ensures))
