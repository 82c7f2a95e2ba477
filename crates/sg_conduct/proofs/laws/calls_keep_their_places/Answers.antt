use Rattle.std.proofs.lemmas.List.Elements.{All-from_recursion}
use Rattle.sg_gateway.proofs.Agreements.{Agreements}
use Rattle.sg_gateway.proofs.Datagrams.{every_turn}
use Rattle.sg_gateway.proofs.Orderly.{Ordered}
use Rattle.sg_gateway.proofs.Pairs.{each_two}
use Rattle.sg_gateway.proofs.Reached.{Anything, anything_had, anything_on, at_each_turn, ordered_worlds}
use Rattle.sg_gateway.specs.Runs.{turns}
use Rattle.sg_conduct.proofs.Alone.{AllBegun}
use Rattle.sg_conduct.proofs.Keeping.{begun_worlds, datagram_keeps_places, later_stays, made_lowest, places_stay, tick_keeps_places}
use Rattle.sg_conduct.specs.Keeping.{DatagramKeepsPlaces, LaterRejectionStays, MadeIsInLowest, PlacesStay, TickKeepsPlaces}
use Rattle.sg_conduct.proofs.laws.calls_keep_their_places.Goals as goal

pub returns : goal.returns
returns c = λ events.
    let laws : Agreements = record { few = c.agreements_are_sound.ensures.few; sound = c.agreements_are_sound.ensures.sound; answered = c.active_media_are_agreed.ensures.answer; described = c.offers_fit_their_calls.ensures.described; count = c.offers_fit_their_calls.ensures.count } in
    record {
      stay = All-from_recursion PlacesStay (turns events)
          (every_turn Anything anything_on anything_had (λ t. Ordered t.before × AllBegun t.before) PlacesStay (λ past w e kept is. places_stay laws w is.0.calls is.1 e) events
          (each_two _ _ _ (λ t ordered begun. (ordered, begun)) (turns events) (ordered_worlds laws events).0 (begun_worlds events)));
      rejected = at_each_turn LaterRejectionStays (λ past w e kept. later_stays w e) events;
      made = at_each_turn MadeIsInLowest (λ past w e kept. made_lowest w e) events;
      ticked = at_each_turn TickKeepsPlaces (λ past w e kept. tick_keeps_places w e) events;
      arrived = at_each_turn DatagramKeepsPlaces (λ past w e kept. datagram_keeps_places w e) events;
    }
