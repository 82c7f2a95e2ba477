use Rattle.std.proofs.lemmas.List.Elements.{All-from_recursion}
use Rattle.sg_gateway.proofs.Agreements.{Agreements}
use Rattle.sg_gateway.proofs.Datagrams.{every_turn}
use Rattle.sg_gateway.proofs.Orderly.{Ordered}
use Rattle.sg_gateway.proofs.Reached.{Anything, anything_had, anything_on, ordered_worlds}
use Rattle.sg_gateway.specs.Runs.{turns}
use Rattle.sg_conduct.proofs.Staying.{event_still}
use Rattle.sg_conduct.specs.Staying.{SessionsStay}
use Rattle.sg_conduct.proofs.laws.sessions_stay_open.Goals as goal

pub returns : goal.returns
returns c = λ events.
    let laws : Agreements = record { few = c.agreements_are_sound.ensures.few; sound = c.agreements_are_sound.ensures.sound; answered = c.active_media_are_agreed.ensures.answer; described = c.offers_fit_their_calls.ensures.described; count = c.offers_fit_their_calls.ensures.count } in
    All-from_recursion SessionsStay (turns events)
    (every_turn Anything anything_on anything_had (λ t. Ordered t.before) SessionsStay
    (λ past w e kept ordered. event_still past w kept ordered.calls e) events (ordered_worlds laws events).0)
