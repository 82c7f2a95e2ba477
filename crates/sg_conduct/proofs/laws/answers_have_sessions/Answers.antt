use Rattle.std.proofs.Common.{◌≡◌, ◌+◌, Ok, Some, sym, subst}
use Rattle.std.proofs.lemmas.List.Elements.{All-from_recursion}
use Rattle.sg_gateway.proofs.Common.{Event, call_of, description_of, each_of, each_weaker, step, turns}
use Rattle.sg_gateway.proofs.Agreements.{Agreements}
use Rattle.sg_gateway.proofs.Datagrams.{every_turn}
use Rattle.sg_gateway.proofs.Kept.{IsOffered}
use Rattle.sg_gateway.proofs.Reached.{Anything, anything_had, anything_on}
use Rattle.sg_conduct.proofs.Present.{answer_therein}
use Rattle.sg_conduct.specs.Present.{AnswerHasSessions, MediaHaveSessions}
use Rattle.sg_conduct.proofs.laws.answers_have_sessions.Goals as goal

pub returns : goal.returns
returns c = λ events.
    let laws : Agreements = record { few = c.agreements_are_sound.ensures.few; sound = c.agreements_are_sound.ensures.sound; answered = c.active_media_are_agreed.ensures.answer; described = c.offers_fit_their_calls.ensures.described; count = c.offers_fit_their_calls.ensures.count } in
    All-from_recursion AnswerHasSessions (turns events)
    (every_turn Anything anything_on anything_had (λ t. Unit {0}) AnswerHasSessions
    (λ past w e kept u id noise text call d o answer same is open_one.
    subst (λ (e : Event). call_of (step w e).world id ≡ Some d → d.generations ≡ call.generations + 1 → description_of text ≡ Ok answer → MediaHaveSessions o answer call.generations d) (sym same)
    (λ at more read. answer_therein laws w (each_weaker _ (λ c. IsOffered c.offer) (λ c k. k.offered) w.calls kept.calls) id noise text call o is open_one answer read d at more))
    events (each_of (λ t. Unit {0}) (λ t. tt) (turns events)))
