use Rattle.sg_gateway.proofs.Agreements.{Agreements}
use Rattle.sg_gateway.proofs.Reached.{at_each_ordered}
use Rattle.sg_gateway.proofs.Sound.{all_sound, sound_on}
use Rattle.sg_session.specs.Reach.{IsSound}
use Rattle.sg_conduct.proofs.Drops.{drop_shows}
use Rattle.sg_conduct.proofs.Shown.{NearestIs}
use Rattle.sg_conduct.specs.Drops.{DropShowsCause}
use Rattle.sg_conduct.proofs.laws.drops_show_causes.Goals as goal

pub returns : goal.returns
returns c = λ events.
    let laws : Agreements = record { few = c.agreements_are_sound.ensures.few; sound = c.agreements_are_sound.ensures.sound; answered = c.active_media_are_agreed.ensures.answer; described = c.offers_fit_their_calls.ensures.described; count = c.offers_fit_their_calls.ensures.count } in
    let nearest : NearestIs = record { ok = c.nearest_law.ensures.ok; first = c.nearest_law.ensures.before_first; spent = c.nearest_law.ensures.spent } in
    at_each_ordered IsSound sound_on (all_sound laws) laws DropShowsCause (λ past w e kept ordered. drop_shows nearest past w e kept ordered) events
