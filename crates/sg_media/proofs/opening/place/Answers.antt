use Rattle.std.proofs.Common.{◌≡◌, ℕ, Result, Ok, Err, ap, subst, sym, ◌∙◌}
use Rattle.sg_base.specs.declared.addresses.Kind.{Kind}
use Rattle.sg_base.specs.declared.faults.DropCause.{DropCause}
use Rattle.sg_states.specs.Placing.{placed}
use Rattle.sg_states.specs.Streams.{IsStreamOf}
use Rattle.sg_media.proofs.opening.place.Goals as goal

pub place-requires-clause-of : goal.place-requires-clause-of
place-requires-clause-of c = subst (λ (kind : Kind). IsStreamOf c.args.stream.now kind c.args.keyed.headed.head.ssrc) (sym c.kind.ensures ∙ c.in-Rtp.is) c.requires

pub place_carried-requires-clause-of : goal.place_carried-requires-clause-of
place_carried-requires-clause-of c = subst (λ (kind : Kind). IsStreamOf c.args.stream.now kind c.args.keyed.headed.head.ssrc) (sym c.kind.ensures ∙ c.in-Rtcp.is) c.requires

pub returns-in-Err-clause-answer : goal.returns-in-Err-clause-answer
returns-in-Err-clause-answer c = λ ssrc roc window indices s.
    subst (λ (kind : Kind). placed kind roc window indices c.args.keyed.headed.head.number ≡ Err c.of_place.result) (sym c.in-Rtp.is ∙ c.kind.ensures)
    (c.in-Err.ensures.answer ssrc roc window indices s ∙ ap (λ x. let r : Result ℕ DropCause = Err x in r) (sym c.of_place.ensures))

pub returns-in-Ok-place_carried-clause-answer : goal.returns-in-Ok-place_carried-clause-answer
returns-in-Ok-place_carried-clause-answer c = λ ssrc roc window indices s.
    subst (λ (kind : Kind). placed kind roc window indices c.args.keyed.headed.head.number ≡ Ok c.in-Ok-place_carried.placed.index) (sym c.in-Rtcp.is ∙ c.kind.ensures)
    (c.in-Ok-place_carried.ensures.answer ssrc roc window indices s)

pub returns-in-Err-place_carried-clause-answer : goal.returns-in-Err-place_carried-clause-answer
returns-in-Err-place_carried-clause-answer c = λ ssrc roc window indices s.
    subst (λ (kind : Kind). placed kind roc window indices c.args.keyed.headed.head.number ≡ Err c.of_stale.result) (sym c.in-Rtcp.is ∙ c.kind.ensures)
    (c.in-Err-place_carried.ensures.answer ssrc roc window indices s ∙ ap (λ x. let r : Result ℕ DropCause = Err x in r) (sym c.of_stale.ensures))
