use Rattle.std.proofs.lemmas.List.Elements.{All-from_recursion}
use Rattle.sg_gateway.proofs.Common.{IsSound, each_of, turns}
use Rattle.sg_gateway.proofs.Agreements.{Agreements}
use Rattle.sg_gateway.proofs.Datagrams.{every_turn}
use Rattle.sg_gateway.proofs.Sound.{all_sound, sound_on}
use Rattle.sg_conduct.proofs.Unsealing.{unsealed_at}
use Rattle.sg_conduct.specs.Unsealed.{OpeningsAreUnsealed}
use Rattle.sg_conduct.proofs.laws.what_is_opened_was_sealed.Goals as goal

pub returns : goal.returns
returns c = λ events.
    let laws : Agreements = record { few = c.agreements_are_sound.ensures.few; sound = c.agreements_are_sound.ensures.sound; answered = c.active_media_are_agreed.ensures.answer; described = c.offers_fit_their_calls.ensures.described; count = c.offers_fit_their_calls.ensures.count } in
    All-from_recursion OpeningsAreUnsealed (turns events)
    (every_turn IsSound sound_on (all_sound laws) (λ t. Unit {0}) OpeningsAreUnsealed
    (λ past w e kept u. All-from_recursion _ _ (unsealed_at past w kept e)) events (each_of (λ t. Unit {0}) (λ t. tt) (turns events)))
