use Rattle.std.proofs.Common.{◌≡◌, ◌+◌, ◌<◌, Some, None, sym, subst}
use Rattle.sg_gateway.proofs.Common.{All, All-from_recursion, Any, Call, Contains, Event, IsRefused, Opening, call_of, each_weaker, step, turn_of}
use Rattle.sg_gateway.proofs.Agreements.{Agreements}
use Rattle.sg_gateway.proofs.CarriedOut.{tick_moves, tick_keeps, bye_ends, rejection_closes, answer_renews, answer_keeps_earlier}
use Rattle.sg_gateway.proofs.Reached.{at_each_ordered, at_each_turn, Anything, anything_on, anything_had}
use Rattle.sg_gateway.specs.CarriedOut.{ByeEnds, TickMoves, IsKeptTo, TickKeeps, RejectionCloses, AnswerRenews, AnswerKeepsEarlier}
use Rattle.sg_gateway.proofs.laws.signals_are_carried_out.Goals as goal

pub returns-clause-byes : goal.returns-clause-byes
returns-clause-byes c = λ events.
    let laws : Agreements = record { few = c.agreements_are_sound.ensures.few; sound = c.agreements_are_sound.ensures.sound; answered = c.active_media_are_agreed.ensures.answer; described = c.offers_fit_their_calls.ensures.described; count = c.offers_fit_their_calls.ensures.count } in
    at_each_ordered Anything anything_on anything_had laws ByeEnds
    (λ past w e kept ordered id same. subst (λ (e : Event). call_of (step w e).world id ≡ None) (sym same)
    (bye_ends w ordered.calls (each_weaker _ _ (λ c k. k.older) w.calls kept.calls) id)) events

pub returns-clause-ticks : goal.returns-clause-ticks
returns-clause-ticks c =
    at_each_turn TickMoves (λ past w e kept now same later. subst (λ (e : Event). (step w e).world.moment ≡ now) (sym same) (tick_moves w now later))

pub returns-clause-kept : goal.returns-clause-kept
returns-clause-kept c =
    at_each_turn TickKeeps (λ past w e kept now same. subst (λ (e : Event). All (λ c. now < c.moment + 60000 → Any (IsKeptTo now c) (step w e).world.calls) w.calls) (sym same)
    (All-from_recursion _ w.calls (tick_keeps w now)))

pub returns-clause-rejections : goal.returns-clause-rejections
returns-clause-rejections c = λ events.
    let laws : Agreements = record { few = c.agreements_are_sound.ensures.few; sound = c.agreements_are_sound.ensures.sound; answered = c.active_media_are_agreed.ensures.answer; described = c.offers_fit_their_calls.ensures.described; count = c.offers_fit_their_calls.ensures.count } in
    at_each_ordered Anything anything_on anything_had laws RejectionCloses
    (λ past w e kept ordered id d same. subst (λ (e : Event). call_of (step w e).world id ≡ Some d → d.offer ≡ None) (sym same)
    (rejection_closes w ordered.calls (each_weaker _ _ (λ c k. k.older) w.calls kept.calls) id d)) events

pub returns-clause-answers : goal.returns-clause-answers
returns-clause-answers c =
    at_each_turn AnswerRenews (λ past w e kept id noise text call same is. subst (λ (e : Event). ¬ IsRefused (turn_of w e) → (d : Call) × (call_of (step w e).world id ≡ Some d) × (d.generations ≡ call.generations + 1) × (d.offer ≡ None) × (d.moment ≡ w.moment)) (sym same)
    (answer_renews w id noise text call is))

pub returns-clause-earlier : goal.returns-clause-earlier
returns-clause-earlier c =
    at_each_turn AnswerKeepsEarlier (λ past w e kept id noise text call d same is. subst (λ (e : Event). call_of (step w e).world id ≡ Some d → d.generations ≡ call.generations + 1
    → All (λ s. s.name.owner.direction ≡ Opening → s.name.owner.generation + 1 ≡ call.generations → Contains d.sessions s) call.sessions) (sym same)
    (λ at more. All-from_recursion _ call.sessions (answer_keeps_earlier w id noise text call is d at more)))
