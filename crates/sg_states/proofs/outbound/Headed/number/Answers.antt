use Rattle.std.proofs.Common.{arith, ◌≡◌, ◌++◌, ◌∷◌, [], Result, Err, ℕ, ap, subst, sym, ◌∙◌}
use Rattle.std.proofs.lemmas.Grind.{common_steps}
use Rattle.sg_base.specs.declared.addresses.Kind.TheVariants.{Rtp}
use Rattle.sg_base.specs.declared.faults.DropCause.{DropCause}
use Rattle.sg_states.specs.Faults.{number_cause}
use Rattle.sg_states.specs.Outbound.{Outgoing}
use Rattle.sg_states.specs.Placing.{placed}
use Rattle.sg_states.specs.Streams.{StreamStands}
use Rattle.sg_states.proofs.Alive.{sealing_alive, unnumbered}
use Rattle.sg_states.proofs.outbound.Headed.number.Goals as goal

pub spend-requires-clause-alive : goal.spend-requires-clause-alive
spend-requires-clause-alive c = (c.in-Ok.ensures.chosen.0, c.in-Ok.ensures.chosen.1, sealing_alive c.args.keys.now c.in-Ok.ensures.chosen.0 c.in-Ok.ensures.chosen.2)

pub returns-in-Ok-place-clause-taken : goal.returns-in-Ok-place-clause-taken
returns-in-Ok-place-clause-taken c = λ ssrc roc window indices s.
    subst (λ i. StreamStands c.spend.new.stream ssrc roc window (indices ++ i ∷ [])) (sym (c.spend.ensures.same.2)) (c.spend.ensures.taken ssrc roc window indices s)

pub returns-in-Err-place-clause-answer : goal.returns-in-Err-place-clause-answer
returns-in-Err-place-clause-answer c = λ ssrc roc window indices s.
    let number : c.self.inside.head.number ≡ c.args.self.head.number = ap (λ (h : Outgoing). h.head.number) c.self.view_is in
    let is : placed Rtp roc window indices c.args.self.head.number ≡ Err (number_cause c.of_place.result) =
    sym (c.in-Err-place.ensures.answer ssrc roc window indices s ∙ ap (placed Rtp roc window indices) number)
    ∙ ap (λ x. let r : Result ℕ DropCause = Err x in r) (sym c.of_place.ensures) in
    unnumbered c.args.keys.now c.in-Ok.ensures.chosen.0 (placed Rtp roc window indices c.args.self.head.number) (number_cause c.of_place.result)
    c.in-Ok.ensures.chosen.2 is

pub returns-in-Ok-place-clause-kept : goal.returns-in-Ok-place-clause-kept
returns-in-Ok-place-clause-kept c = grind (arith, common_steps)

pub returns-in-Ok-place-clause-answer : goal.returns-in-Ok-place-clause-answer
returns-in-Ok-place-clause-answer c = grind (arith, common_steps)
