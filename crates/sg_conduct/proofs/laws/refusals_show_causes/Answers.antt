use Rattle.sg_gateway.proofs.Agreements.{Agreements}
use Rattle.sg_gateway.proofs.Reached.{Anything, anything_had, anything_on, at_each_ordered}
use Rattle.sg_conduct.proofs.Refusals.{barred_refused, ends_once, refusals_show}
use Rattle.sg_conduct.specs.Refusals.{BarredIsRefused, EndsAreOnce}
use Rattle.sg_conduct.proofs.laws.refusals_show_causes.Goals as goal

pub returns : goal.returns
returns c = λ events.
    let laws : Agreements = record { few = c.agreements_are_sound.ensures.few; sound = c.agreements_are_sound.ensures.sound; answered = c.active_media_are_agreed.ensures.answer; described = c.offers_fit_their_calls.ensures.described; count = c.offers_fit_their_calls.ensures.count } in
    record {
      shown = refusals_show laws events;
      barred = at_each_ordered Anything anything_on anything_had laws BarredIsRefused (λ past w e kept ordered. barred_refused w ordered.calls e) events;
      once = at_each_ordered Anything anything_on anything_had laws EndsAreOnce (λ past w e kept ordered. ends_once w ordered.calls e) events;
    }
