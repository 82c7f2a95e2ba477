use Rattle.std.proofs.Common.{[]}
use Rattle.std.specs.List.{AllByRecursion}
use Rattle.sg_gateway.proofs.Common.{after_turn, empty, world_after}
use Rattle.sg_gateway.proofs.Agreements.{Agreements}
use Rattle.sg_gateway.proofs.Datagrams.{every_turn}
use Rattle.sg_gateway.proofs.Orderly.{Ordered}
use Rattle.sg_gateway.proofs.Pairs.{each_two}
use Rattle.sg_gateway.proofs.Reached.{Anything, anything_had, anything_on, ordered_worlds}
use Rattle.sg_conduct.proofs.Heard.{calls_heard}
use Rattle.sg_conduct.proofs.Latest.{Settles, event_settles, run_latest}
use Rattle.sg_conduct.proofs.laws.calls_were_heard.Goals as goal

pub returns : goal.returns
returns c = λ events.
    let laws : Agreements = record { few = c.agreements_are_sound.ensures.few; sound = c.agreements_are_sound.ensures.sound; answered = c.active_media_are_agreed.ensures.answer; described = c.offers_fit_their_calls.ensures.described; count = c.offers_fit_their_calls.ensures.count } in
    each_two _ _ _ (λ call heard latest. (heard.0, latest, heard.1)) (world_after empty events).calls (calls_heard events)
    (run_latest [] empty tt tt events
    (every_turn Anything anything_on anything_had (λ t. Ordered t.before) (λ u. AllByRecursion (Settles u) (after_turn u).calls)
    (λ past w e kept ordered. event_settles past w kept ordered.calls e) events (ordered_worlds laws events).0))
