use Rattle.std.proofs.lemmas.List.Elements.{All-from_recursion}
use Rattle.sg_gateway.proofs.Agreements.{Agreements}
use Rattle.sg_gateway.proofs.Common.{each_of, each_weaker}
use Rattle.sg_gateway.proofs.Datagrams.{every_turn}
use Rattle.sg_gateway.proofs.Orderly.{Ordered}
use Rattle.sg_gateway.proofs.Reached.{Anything, anything_had, anything_on, at_each_ordered, at_each_turn, ordered_worlds}
use Rattle.sg_gateway.specs.Runs.{turns}
use Rattle.sg_conduct.proofs.Alone.{calls_begun, marks_stay, moment_stays, pairs_stay, psk_is_held, rejected_ends}
use Rattle.sg_conduct.proofs.Causes.{refused_show}
use Rattle.sg_conduct.proofs.Firsts.{answers_by_first}
use Rattle.sg_conduct.proofs.Notes.{notes_come}
use Rattle.sg_conduct.proofs.Staying.{offers_stay}
use Rattle.sg_conduct.proofs.Users.{keys_come}
use Rattle.sg_conduct.specs.Causes.{KeysComeWithUsers}
use Rattle.sg_conduct.specs.Offers.{NotesComeWithOffers}
use Rattle.sg_conduct.specs.Staying.{MarksStay, MomentStays, OpenOffersStay, PairsStay, PskIsHeld, RejectedFirstEnds}
use Rattle.sg_conduct.proofs.laws.refused_answers_show_causes.Goals as goal

pub returns : goal.returns
returns c = λ events.
    let laws : Agreements = record { few = c.agreements_are_sound.ensures.few; sound = c.agreements_are_sound.ensures.sound; answered = c.active_media_are_agreed.ensures.answer; described = c.offers_fit_their_calls.ensures.described; count = c.offers_fit_their_calls.ensures.count } in
    record {
      shown = refused_show laws events;
      stay = All-from_recursion OpenOffersStay (turns events)
          (every_turn Anything anything_on anything_had (λ t. Ordered t.before) OpenOffersStay (λ past w e kept ordered. offers_stay w ordered.calls e) events (ordered_worlds laws events).0);
      noted = All-from_recursion NotesComeWithOffers (turns events)
          (every_turn Anything anything_on anything_had (λ t. Unit {0}) NotesComeWithOffers (λ past w e kept u. notes_come w e) events (each_of (λ t. Unit {0}) (λ t. tt) (turns events)));
      used = All-from_recursion KeysComeWithUsers (turns events)
          (every_turn Anything anything_on anything_had (λ t. Unit {0}) KeysComeWithUsers (λ past w e kept u. keys_come w kept.ring e) events (each_of (λ t. Unit {0}) (λ t. tt) (turns events)));
      moment = at_each_turn MomentStays (λ past w e kept. moment_stays w e) events;
      pairs = at_each_turn PairsStay (λ past w e kept. pairs_stay w e) events;
      held = at_each_turn PskIsHeld (λ past w e kept. psk_is_held w e) events;
      marks = at_each_ordered Anything anything_on anything_had laws MarksStay
          (λ past w e kept ordered. marks_stay w ordered.calls (each_weaker _ _ (λ c of_call. of_call.older) w.calls kept.calls) e) events;
      rejected = at_each_ordered Anything anything_on anything_had laws RejectedFirstEnds
          (λ past w e kept ordered. rejected_ends w ordered.calls (each_weaker _ _ (λ c of_call. of_call.older) w.calls kept.calls) e) events;
      begun = calls_begun events;
      firsts = answers_by_first events;
    }
