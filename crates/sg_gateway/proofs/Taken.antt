-- Offers and manual calls that nothing speaks against are taken.
use Rattle.std.proofs.Common.{◌≡◌, ℕ, ◌+◌, ◌<◌, Bool, true, false, cond, not, List, [], ◌∷◌, ◌++◌, length, Option, Some, None, Result, Ok, Err, refl, sym, ap, ◌∙◌, subst, arith, eqb, ltb, eq-eqb}
use Rattle.std.proofs.lemmas.Bool.{cond-true, cond-false, lt-ltb}
use Rattle.std.specs.Option.{is_some}
use Rattle.sg_agreement.specs.Generations.{Generation, generation_of}
use Rattle.sg_base.specs.declared.faults.Refusal.TheVariants.{State, CallKnown, TableFull}
use Rattle.sg_outcome.specs.declared.outcomes.Outcome.TheVariants.{Made, Live, Sdp}
use Rattle.sg_gateway.proofs.Common.{AgreedOffer, Call, CallId, ManualCall, Outcome, Refusal, Way, World, after_ok, and_call, append-nil, call_of, find_call}
use Rattle.sg_gateway.proofs.Common.{is_full, manual_medium, other_side, same_id, side_of}
use Rattle.sg_gateway.proofs.CarriedOut.{found_with, id_found}
use Rattle.sg_gateway.specs.CallSignals.{offered_in, takes_offer, with_notes}
use Rattle.sg_gateway.specs.Generations.{Settled, renewed}
use Rattle.sg_gateway.specs.Signals.{Answer, Manual, Offered, answer_to, in_new, in_old, new_call, offered_to, refused, tells_live, tells_text}
use Rattle.sg_gateway.specs.Taken.{IsAgreed, HasOpen}

pub same_id_itself : (id : CallId) → same_id id id ≡ true
same_id_itself id = eq-eqb id.0 id.0 refl

-- a new call is found among the others by its test, where none of them passes it
pub found_new : (test : Call → Bool) (d : Call) (cs : List Call) → test d ≡ true → find_call test cs ≡ None → find_call test (and_call d cs) ≡ Some d
found_new test d [] own none = cond-true (test d) (Some d) None own
found_new test d (c ∷ cs) own none = at (test c) refl none (found_new test d cs own) (ltb d.slot c.slot)
  where
    at : (passes : Bool) → test c ≡ passes → cond passes (Some c) (find_call test cs) ≡ None → (find_call test cs ≡ None → find_call test (and_call d cs) ≡ Some d)
        → (b : Bool) → find_call test (cond b (d ∷ (c ∷ cs)) (c ∷ and_call d cs)) ≡ Some d
    at true is none rest b = absurd cc
    at false is none rest true = cond-true (test d) (Some d) (find_call test (c ∷ cs)) own
    at false is none rest false = cond-false (test c) (Some c) (find_call test (and_call d cs)) is ∙ rest none

has_room : (w : World) → length w.calls < 256 → is_full w ≡ false
has_room w lt = ap not (lt-ltb (length w.calls) 256 lt)

module _ (w : World) (id : CallId) (way : Way) (noise text : List ℕ) (a : AgreedOffer) where
  -- the call with the offer open
  abbrev opened : Call → Settled
  opened c = record {
    text = a.text;
    call = record c { media = a.media; offer = Some a.offer; moment = w.moment };
    books = record w.books { noted = with_notes w.books.noted a.noted };
  }

  abbrev settled : AgreedOffer → Call → Settled
  settled b c = record {
    text = b.text;
    call = record c { media = b.media; offer = Some b.offer; moment = w.moment };
    books = record w.books { noted = with_notes w.books.noted b.noted };
  }

  opens : (c : Call) → takes_offer c ≡ true → IsAgreed w c way noise text a → offered_in w.moment w.books c way noise text ≡ Ok (opened c)
  opens c takes agreed =
      cond-false (not (takes_offer c)) (Err State) _ (ap not takes)
      ∙ ap (λ r. after_ok r (λ b. let s : Result Settled Refusal = Ok (settled b c) in s)) agreed

  abbrev Opens : Answer → ℕ → List Outcome → Type 0
  Opens answer generations told = HasOpen answer.world id generations a × (answer.outcomes ≡ told)

  new_opens : call_of w id ≡ None → length w.calls < 256 → IsAgreed w (new_call w id) way noise text a
      → Opens (offered_to w id way noise text None) 0 (Made id (new_call w id).slot a.media ∷ Sdp id (other_side (side_of way)) a.text ∷ [])
  new_opens none room agreed =
      subst (λ (x : Answer). Opens x 0 (Made id (new_call w id).slot a.media ∷ Sdp id (other_side (side_of way)) a.text ∷ []))
      (sym (cond-false (is_full w) (refused w (Some id) TableFull) _ (has_room w room)
      ∙ ap (in_new w id (tells_text id (other_side (side_of way)))) (opens (new_call w id) refl agreed))) (
        record {
          call = (opened (new_call w id)).call;
          found = found_new (λ c. same_id c.id id) (opened (new_call w id)).call w.calls (same_id_itself id) none;
          same = refl;
          offer = refl;
          heard = refl;
        },
        refl,
      )

  old_opens : (c : Call) → call_of w id ≡ Some c → c.manual ≡ false → c.offer ≡ None → IsAgreed w c way noise text a
      → Opens (offered_to w id way noise text (Some c)) c.generations (Sdp id (other_side (side_of way)) a.text ∷ [])
  old_opens c is by_offers closed agreed =
      let takes : takes_offer c ≡ true = (λ i. not (Rattle.std.proofs.Common.◌||◌ (by_offers i) (is_some (closed i)))) in
      subst (λ (x : Answer). Opens x c.generations (Sdp id (other_side (side_of way)) a.text ∷ []))
      (sym (ap (in_old w id (tells_text id (other_side (side_of way)))) (opens c takes agreed))) (
        record {
          call = (opened c).call;
          found = found_with id c (opened c).call w.calls refl (id_found id c w.calls is) is;
          same = refl;
          offer = refl;
          heard = refl;
        },
        refl,
      )

  pub new_offer_taken : call_of w id ≡ None → length w.calls < 256 → IsAgreed w (new_call w id) way noise text a
      → Opens (answer_to w (Offered id way noise text)) 0 (Made id (new_call w id).slot a.media ∷ Sdp id (other_side (side_of way)) a.text ∷ [])
  new_offer_taken none room agreed =
      subst (λ o. Opens (offered_to w id way noise text o) 0 (Made id (new_call w id).slot a.media ∷ Sdp id (other_side (side_of way)) a.text ∷ []))
      (sym none) (new_opens none room agreed)

  pub later_offer_taken : (c : Call) → call_of w id ≡ Some c → c.manual ≡ false → c.offer ≡ None → IsAgreed w c way noise text a
      → Opens (answer_to w (Offered id way noise text)) c.generations (Sdp id (other_side (side_of way)) a.text ∷ [])
  later_offer_taken c is by_offers closed agreed =
      subst (λ o. Opens (offered_to w id way noise text o) c.generations (Sdp id (other_side (side_of way)) a.text ∷ []))
      (sym is) (old_opens c is by_offers closed agreed)

module _ (w : World) (h : ManualCall) (g : Generation) where
  abbrev manual_call : Call
  manual_call = record (new_call w h.id) { media = 1; manual = true }

  abbrev lives : Settled
  lives = record { text = []; call = renewed w.moment manual_call g.sessions; books = record w.books { ring = g.ring } }

  abbrev IsLive : Answer → Type 0
  IsLive x =
      (x.outcomes ≡ Made h.id (new_call w h.id).slot 1 ∷ Live h.id ∷ [])
      × ((d : Call) × (call_of x.world h.id ≡ Some d) × (d.generations ≡ 1) × (d.sessions ≡ g.sessions))

  pub manual_call_taken : call_of w h.id ≡ None → length w.calls < 256 → generation_of w.made 0 w.books.ring (Some (manual_medium h) ∷ []) ≡ Ok g
      → IsLive (answer_to w (Manual h))
  manual_call_taken none room agreed =
      subst IsLive
      (sym (cond-false (is_some (call_of w h.id)) (refused w (Some h.id) CallKnown) _ (ap is_some none)
      ∙ cond-false (is_full w) (refused w (Some h.id) TableFull) _ (has_room w room)
      ∙ ap (λ r. in_new w h.id (tells_live h.id) (after_ok r (λ g. let s : Result Settled Refusal = Ok (record { text = []; call = renewed w.moment manual_call g.sessions; books = record w.books { ring = g.ring } }) in s))) agreed)) (
        refl,
        (lives.call, found_new (λ c. same_id c.id h.id) lives.call w.calls (same_id_itself h.id) none, refl, append-nil g.sessions),
      )
