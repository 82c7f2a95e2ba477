use Rattle.std.proofs.Common.{◌≡◌, List, [], ◌∷◌, cond, refl, sym, ◌∙◌, subst}
use Rattle.sg_gateway.proofs.Common.{Done, Entry, IsSound, Name, each_weaker, empty, journal, same_name, world_after}
use Rattle.sg_gateway.proofs.Agreements.{Agreements}
use Rattle.sg_gateway.proofs.Datagrams.{journal_kept}
use Rattle.sg_gateway.proofs.Kept.{done_of}
use Rattle.sg_gateway.proofs.Sound.{all_sound, sound_on}
use Rattle.sg_conduct.proofs.Standing.{done_under}
use Rattle.sg_conduct.specs.Standing.{AreDoneUnder, done_by}
use Rattle.sg_conduct.proofs.laws.sessions_have_done_what_was_done.Goals as goal

same_list : (es : List Entry) (n : Name) → done_of es n ≡ done_by es n
same_list [] n = refl
same_list (e ∷ es) n = (λ i. cond (same_name n e.session) (e.done ∷ same_list es n i) (same_list es n i))

pub returns : goal.returns
returns c = λ events.
    let laws : Agreements = record { few = c.agreements_are_sound.ensures.few; sound = c.agreements_are_sound.ensures.sound; answered = c.active_media_are_agreed.ensures.answer; described = c.offers_fit_their_calls.ensures.described; count = c.offers_fit_their_calls.ensures.count } in
    let kept = (journal_kept IsSound sound_on (all_sound laws) events).1.calls in
    record {
      by_name = each_weaker _ _ (λ call is. each_weaker _ _ (λ s kept. kept.done ∙ same_list (journal events) s.name) call.sessions is.sessions) (world_after empty events).calls kept;
      own = each_weaker _ _
          (λ call is. each_weaker _ _
          (λ s kept. subst (λ (done : List Done). AreDoneUnder (journal events) s.name done) (sym (kept.done ∙ same_list (journal events) s.name)) (done_under (journal events) s.name))
          call.sessions is.sessions)
          (world_after empty events).calls kept;
    }
