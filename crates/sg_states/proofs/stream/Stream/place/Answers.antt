use Rattle.std.proofs.Common.{ℕ, Result, Err, ap, ◌∙◌}
use Rattle.sg_base.specs.declared.faults.DropCause.{DropCause}
use Rattle.sg_session.specs.Session.{with_cause}
use Rattle.sg_session.specs.Stages.{after_ok}
use Rattle.sg_states.specs.Placing.{fresh_in}
use Rattle.sg_states.proofs.stream.Stream.place.Goals as goal

pub returns-in-Ok-new_index-clause-answer : goal.returns-in-Ok-new_index-clause-answer
returns-in-Ok-new_index-clause-answer c = λ ssrc roc window indices s.
    c.in-Ok-new_index.ensures.answer ssrc roc window indices s
    ∙ ap (λ r. after_ok (with_cause r) (fresh_in window indices)) (c.in-Ok.ensures.answer ssrc roc window indices s)

pub returns-in-Err-new_index-clause-answer : goal.returns-in-Err-new_index-clause-answer
returns-in-Err-new_index-clause-answer c = λ ssrc roc window indices s.
    ap (λ x. let r : Result ℕ DropCause = Err x in r) c.of_stale.ensures
    ∙ c.in-Err-new_index.ensures.answer ssrc roc window indices s
    ∙ ap (λ r. after_ok (with_cause r) (fresh_in window indices)) (c.in-Ok.ensures.answer ssrc roc window indices s)
