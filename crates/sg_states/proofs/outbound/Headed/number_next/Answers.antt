use Rattle.std.proofs.Common.{◌++◌, ◌∷◌, [], Result, Ok, ℕ, ap, subst, sym, ◌∙◌}
use Rattle.sg_base.specs.declared.faults.DropCause.{DropCause}
use Rattle.sg_base.specs.declared.faults.DropCause.TheVariants.{RtcpIndexSpent}
use Rattle.sg_replay.specs.Freshness.{highest_of}
use Rattle.sg_session.specs.Sealing.{next_after}
use Rattle.sg_states.specs.Streams.{StreamStands}
use Rattle.sg_states.proofs.Alive.{sealing_alive, unnumbered}
use Rattle.sg_states.proofs.outbound.Headed.number_next.Goals as goal

pub spend-requires-clause-alive : goal.spend-requires-clause-alive
spend-requires-clause-alive c = (c.in-Ok.ensures.chosen.0, c.in-Ok.ensures.chosen.1, sealing_alive c.args.keys.now c.in-Ok.ensures.chosen.0 c.in-Ok.ensures.chosen.2)

pub returns-in-Some-clause-taken : goal.returns-in-Some-clause-taken
returns-in-Some-clause-taken c = λ ssrc roc window indices s.
    subst (λ i. StreamStands c.spend.new.stream ssrc roc window (indices ++ i ∷ [])) (sym (c.spend.ensures.same.2)) (c.spend.ensures.taken ssrc roc window indices s)

pub returns-in-Some-clause-answer : goal.returns-in-Some-clause-answer
returns-in-Some-clause-answer c = λ ssrc roc window indices s.
    sym (c.in-Some.ensures.answer ssrc roc window indices s) ∙ ap (λ i. let r : Result ℕ DropCause = Ok i in r) (sym (c.spend.ensures.same.2))

pub returns-in-None-clause-answer : goal.returns-in-None-clause-answer
returns-in-None-clause-answer c = λ ssrc roc window indices s.
    unnumbered c.args.keys.now c.in-Ok.ensures.chosen.0 (next_after (highest_of indices)) RtcpIndexSpent c.in-Ok.ensures.chosen.2 (sym (c.in-None.ensures.answer ssrc roc window indices s))
