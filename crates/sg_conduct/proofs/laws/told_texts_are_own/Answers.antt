use Rattle.std.proofs.lemmas.List.Elements.{All-from_recursion}
use Rattle.sg_gateway.proofs.Agreements.{Agreements}
use Rattle.sg_gateway.proofs.Common.{each_weaker}
use Rattle.sg_gateway.proofs.Datagrams.{every_turn}
use Rattle.sg_gateway.proofs.Kept.{IsOffered}
use Rattle.sg_gateway.proofs.Orderly.{Ordered}
use Rattle.sg_gateway.proofs.Reached.{Anything, anything_had, anything_on, at_each_turn, ordered_worlds}
use Rattle.sg_gateway.specs.Runs.{turns}
use Rattle.sg_conduct.proofs.Alone.{bye_is_told, idle_is_told, others_tell_ends, tells_live}
use Rattle.sg_conduct.proofs.Back.{answer_carried}
use Rattle.sg_conduct.proofs.Printed.{Laws}
use Rattle.sg_conduct.proofs.Telling.{event_tells}
use Rattle.sg_conduct.specs.CarriedBack.{AnswerIsCarried}
use Rattle.sg_conduct.specs.ToldTexts.{AnswerTellsLive, ByeIsTold, IdleIsTold, OthersTellEnds, TextsAreOwn}
use Rattle.sg_conduct.proofs.laws.told_texts_are_own.Goals as goal

pub returns : goal.returns
returns c = λ events.
    let laws : Agreements = record { few = c.agreements_are_sound.ensures.few; sound = c.agreements_are_sound.ensures.sound; answered = c.active_media_are_agreed.ensures.answer; described = c.offers_fit_their_calls.ensures.described; count = c.offers_fit_their_calls.ensures.count } in
    let of_texts : Laws = record { again = c.descriptions_have_one_value.ensures.printed_again; valid = c.a_carried_text_is_a_description.ensures.valid } in
    record {
      own = All-from_recursion TextsAreOwn (turns events)
          (every_turn Anything anything_on anything_had (λ t. Ordered t.before) TextsAreOwn
          (λ past w e kept ordered. event_tells c.descriptions_have_one_value.ensures.takes of_texts w ordered e) events (ordered_worlds laws events).0);
      ends = at_each_turn OthersTellEnds (λ past w e kept. others_tell_ends w e) events;
      byes = at_each_turn ByeIsTold (λ past w e kept. bye_is_told w e) events;
      idle = at_each_turn IdleIsTold (λ past w e kept. idle_is_told w e) events;
      live = at_each_turn AnswerTellsLive (λ past w e kept. tells_live w e) events;
      back = at_each_turn AnswerIsCarried (λ past w e kept. answer_carried laws w (each_weaker _ (λ c. IsOffered c.offer) (λ c k. k.offered) w.calls kept.calls) e) events;
    }
