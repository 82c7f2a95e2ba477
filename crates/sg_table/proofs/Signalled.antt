-- A signal, whose call was settled or refused.
use Rattle.std.proofs.Common.{◌≡◌, ◌<◌, ℕ, Bool, true, false, cond, List, [], ◌∷◌, length, get_or, Option, Some, None, Result, Ok, Err, refl, sym, ap, ◌∙◌, subst}
use Rattle.std.proofs.Math.ListN.{set}
use Rattle.std.specs.List.{insert, position}
use Rattle.std.specs.Option.{is_some, option_map}
use Rattle.std.specs.Result.{OnErr}
use Rattle.sg_agreement.specs.Keying.{Offer}
use Rattle.sg_agreement.specs.Manual.{ManualCall, manual_medium}
use Rattle.sg_agreement.specs.Sides.{side_of, other_side}
use Rattle.sg_agreement.specs.declared.ways.Way.{Way}
use Rattle.sg_base.specs.declared.addresses.CallId.{CallId}
use Rattle.sg_base.specs.declared.addresses.Side.{Side}
use Rattle.sg_base.specs.declared.faults.Fault.{Fault}
use Rattle.sg_base.specs.declared.faults.Fault.TheVariants as faults
use Rattle.sg_base.specs.declared.faults.Refusal.{Refusal}
use Rattle.sg_base.specs.declared.faults.Refusal.TheVariants.{State}
use Rattle.sg_call.proofs.MorePairs.{has_pairs}
use Rattle.sg_call.specs.Settling.{BooksStandFor, Settles, IsSettled, IsKeyed}
use Rattle.sg_call.specs.Standing.{CallStandsFor}
use Rattle.sg_call.specs.States.{HasPairs}
use Rattle.sg_call.specs.Values.{CallValue}
use Rattle.sg_gateway.proofs.Pairs.{Pairs}
use Rattle.sg_gateway.specs.CallSignals.{idle_call, keyed_manually, offered_in, answered_to, answered_in, takes_offer}
use Rattle.sg_gateway.specs.Early.{early_answer, early_offer}
use Rattle.sg_gateway.specs.Order.{IsBefore}
use Rattle.sg_gateway.specs.Signals.{new_call, tells_live, tells_text, tells_answer, offering_side, manual_answer, offered_to, answered}
use Rattle.sg_gateway.specs.World as world
use Rattle.sg_gateway.specs.World.{Call, World, call_of}
use Rattle.sg_leg.specs.declared.books.Books.{Books}
use Rattle.sg_outcome.specs.declared.outcomes.Outcome.{Outcome}
use Rattle.sg_outcome.specs.declared.outcomes.Outcome.TheVariants.{Made, Live, Sdp, Refused}
use Rattle.sg_psk.specs.declared.pairs.Pair.{Pair}
use Rattle.sg_table.proofs.Answered.{refused_new, refused_old, settled_at, settled_new}
use Rattle.sg_table.proofs.Early.{some_call, manual_new, offer_new, offer_old}
use Rattle.sg_table.proofs.Found.{CallAt}
use Rattle.sg_table.proofs.FreeSlot.{free_same}
use Rattle.sg_table.proofs.Settled.{manual_same, offered_same, answered_same}
use Rattle.sg_table.specs.Found.{has_id}
use Rattle.sg_table.specs.Free.{free_shape}
use Rattle.sg_table.specs.Standing.{Holds}
use Rattle.sg_table.specs.Telling.{IsAnswered}
use Rattle.sg_table.specs.Values.{TableValue, shapes_of, IsQuiet}

-- what is known whatever the result
pub on_err : {T E : Type 0} (r : Result T E) (P : Type 0) → P → OnErr r P
on_err (Ok x) P p = tt
on_err (Err e) P p = p

abbrev pub held : List CallValue → Books → ℕ → TableValue
held calls books now = record { calls = calls; books = books; moment = now }

module _ (calls : List CallValue) (books : Books) (now : ℕ) (w : World) (holds : Holds (held calls books now) w) (order : Pairs IsBefore w.calls) where
  abbrev is_new : CallId → Type 0
  is_new id = is_some (position (has_id id) calls) ≡ false

  abbrev has_room : Type 0
  has_room = length calls < 256

  -- ---- a new call

  module _ (id : CallId) (slot : ℕ) (is_free : slot ≡ free_shape 0 (shapes_of calls)) (call : CallValue) (idle : (pairs : List Pair) (serial : ℕ) → CallStandsFor pairs call (idle_call serial id slot)) where
    new_idle : CallStandsFor w.books.pairs call (new_call w id)
    new_idle = subst (λ n. CallStandsFor w.books.pairs call (idle_call w.made id n)) (is_free ∙ free_same w.books.pairs 0 calls w.calls holds.calls) (idle w.books.pairs w.made)

    module _ (new : CallValue) (books' : Books) (psks : books'.psks ≡ books.psks) (quiet : IsQuiet new) where
      pub manual_told : (h : ManualCall) → h.id ≡ id → is_new h.id → has_room → ((c : Call) (b : world.Books) → CallStandsFor b.pairs call c → BooksStandFor books b → IsKeyed (Ok tt) new books' (keyed_manually now b c (manual_medium h)))
          → (outs : List Outcome) → outs ≡ Made id new.slot new.media ∷ Live id ∷ [] → IsAnswered outs (held (insert calls slot new) books' now) (manual_answer w h)
      manual_told h same e f answer outs tells =
          let settles : Settles CallStandsFor new [] books' (keyed_manually w.moment w.books (new_call w h.id) (manual_medium h)) =
          subst (λ (j : CallId). Settles CallStandsFor new [] books' (keyed_manually w.moment w.books (new_call w j) (manual_medium h))) (sym same)
          (subst (λ n. Settles CallStandsFor new [] books' (keyed_manually n w.books (new_call w id) (manual_medium h))) (sym holds.moment_is) (answer (new_call w id) w.books new_idle holds.books)) in
          subst (IsAnswered outs (held (insert calls slot new) books' now)) (sym (manual_new (held calls books now) w holds h e f))
          (settled_new calls books now w holds order h.id (tells_live h.id) (keyed_manually w.moment w.books (new_call w h.id) (manual_medium h)) new [] books' settles psks quiet slot is_free
          (manual_same w.moment w.books (new_call w h.id) (manual_medium h) settles.settled settles.is_settled).slot
          outs (tells ∙ (λ i. Made (sym same i) new.slot new.media ∷ Live (sym same i) ∷ [])))

      pub offer_new_told : (way : Way) (noise text out : List ℕ) → position (has_id id) calls ≡ None → has_room
          → ((c : Call) (b : world.Books) → CallStandsFor b.pairs call c → BooksStandFor books b → IsSettled (Ok out) new books' (offered_in now b c way noise text))
          → (outs : List Outcome) → outs ≡ Made id new.slot new.media ∷ Sdp id (other_side (side_of way)) out ∷ []
          → IsAnswered outs (held (insert calls slot new) books' now) (offered_to w id way noise text (call_of w id))
      offer_new_told way noise text out e f answer outs tells =
          let settles : Settles CallStandsFor new out books' (offered_in w.moment w.books (new_call w id) way noise text) =
          subst (λ n. Settles CallStandsFor new out books' (offered_in n w.books (new_call w id) way noise text)) (sym holds.moment_is) (answer (new_call w id) w.books new_idle holds.books) in
          subst (IsAnswered outs (held (insert calls slot new) books' now)) (sym (offer_new (held calls books now) w holds id way noise text e f))
          (settled_new calls books now w holds order id (tells_text id (other_side (side_of way))) (offered_in w.moment w.books (new_call w id) way noise text) new out books' settles psks quiet slot is_free
          (offered_same w.moment w.books (new_call w id) way noise text settles.settled settles.is_settled).slot
          outs (tells ∙ (λ i. Made id new.slot new.media ∷ Sdp id (other_side (side_of way)) (settles.text_is i) ∷ [])))

    pub manual_refused : (h : ManualCall) → h.id ≡ id → is_new h.id → has_room → (cause : Refusal) → ((c : Call) (b : world.Books) → CallStandsFor b.pairs call c → BooksStandFor books b → keyed_manually now b c (manual_medium h) ≡ Err cause)
        → (outs : List Outcome) → outs ≡ Refused (Some id) cause ∷ [] → IsAnswered outs (held calls books now) (manual_answer w h)
    manual_refused h same e f cause answer outs tells =
        let is : keyed_manually w.moment w.books (new_call w h.id) (manual_medium h) ≡ Err cause =
        subst (λ (j : CallId). keyed_manually w.moment w.books (new_call w j) (manual_medium h) ≡ Err cause) (sym same)
        (subst (λ n. keyed_manually n w.books (new_call w id) (manual_medium h) ≡ Err cause) (sym holds.moment_is) (answer (new_call w id) w.books new_idle holds.books)) in
        subst (IsAnswered outs (held calls books now)) (sym (manual_new (held calls books now) w holds h e f))
        (refused_new calls books now w holds order h.id (tells_live h.id) (keyed_manually w.moment w.books (new_call w h.id) (manual_medium h)) cause is outs
        (tells ∙ (λ i. Refused (Some (sym same i)) cause ∷ [])))

    pub offer_new_refused : (way : Way) (noise text : List ℕ) → position (has_id id) calls ≡ None → has_room → (cause : Refusal)
        → ((c : Call) (b : world.Books) → CallStandsFor b.pairs call c → BooksStandFor books b → offered_in now b c way noise text ≡ Err cause)
        → (outs : List Outcome) → outs ≡ Refused (Some id) cause ∷ [] → IsAnswered outs (held calls books now) (offered_to w id way noise text (call_of w id))
    offer_new_refused way noise text e f cause answer outs tells =
        subst (IsAnswered outs (held calls books now)) (sym (offer_new (held calls books now) w holds id way noise text e f))
        (refused_new calls books now w holds order id (tells_text id (other_side (side_of way))) (offered_in w.moment w.books (new_call w id) way noise text) cause
        (subst (λ n. offered_in n w.books (new_call w id) way noise text ≡ Err cause) (sym holds.moment_is) (answer (new_call w id) w.books new_idle holds.books)) outs tells)

  -- ---- a call that is there

  module _ (id : CallId) (i : ℕ) (e : position (has_id id) calls ≡ Some i) (d : CallValue) where
    abbrev at : CallAt w.books.pairs id calls w.calls i
    at = some_call (held calls books now) w holds id i e

    pub pairs_there : HasPairs books.psks (get_or calls i d).state
    pairs_there = subst (λ ps. HasPairs ps (get_or calls i d).state) (sym holds.books.pairs) (has_pairs w.books.pairs (get_or calls i d) at.call (at.stands d))

    module _ (new : CallValue) (out : List ℕ) (books' : Books) (psks : books'.psks ≡ books.psks) (quiet : IsQuiet new) where
      pub offer_at_told : (way : Way) (noise text : List ℕ)
          → ((c : Call) (b : world.Books) → CallStandsFor b.pairs (get_or calls i d) c → BooksStandFor books b → IsSettled (Ok out) new books' (offered_in now b c way noise text))
          → (outs : List Outcome) → outs ≡ Sdp id (other_side (side_of way)) out ∷ []
          → IsAnswered outs (held (set calls i new) books' now) (offered_to w id way noise text (call_of w id))
      offer_at_told way noise text answer outs tells =
          let settles : Settles CallStandsFor new out books' (offered_in w.moment w.books at.call way noise text) =
          subst (λ n. Settles CallStandsFor new out books' (offered_in n w.books at.call way noise text)) (sym holds.moment_is) (answer at.call w.books (at.stands d) holds.books) in
          subst (IsAnswered outs (held (set calls i new) books' now)) (sym (offer_old (held calls books now) w holds id way noise text i e))
          (settled_at calls books now w holds order id (tells_text id (other_side (side_of way))) (offered_in w.moment w.books at.call way noise text) new out books' settles psks quiet i at
          (offered_same w.moment w.books at.call way noise text settles.settled settles.is_settled).serial
          outs (tells ∙ (λ i. Sdp id (other_side (side_of way)) (settles.text_is i) ∷ [])))

      side_is : (side : Side) (o : Option Offer) → Some side ≡ option_map (λ (o : Offer). o.side) o → offering_side o ≡ side
      side_is side None is = absurd cc
      side_is side (Some o) is = let same : side ≡ o.side = cc in sym same

      pub answer_told : (side : Side) (noise text : List ℕ) → ((pairs : List Pair) (c : Call) → CallStandsFor pairs (get_or calls i d) c → Some side ≡ option_map (λ (o : Offer). o.side) c.offer)
          → ((c : Call) (b : world.Books) → CallStandsFor b.pairs (get_or calls i d) c → BooksStandFor books b → IsSettled (Ok out) new books' (answered_in now b c noise text))
          → (outs : List Outcome) → outs ≡ Sdp id side out ∷ Live id ∷ []
          → IsAnswered outs (held (set calls i new) books' now) (answered w id noise text (call_of w id))
      answer_told side noise text of_side answer outs tells =
          let settles : Settles CallStandsFor new out books' (answered_in w.moment w.books at.call noise text) =
          subst (λ n. Settles CallStandsFor new out books' (answered_in n w.books at.call noise text)) (sym holds.moment_is) (answer at.call w.books (at.stands d) holds.books) in
          let is_side : offering_side at.call.offer ≡ side = side_is side at.call.offer (of_side w.books.pairs at.call (at.stands d)) in
          subst (IsAnswered outs (held (set calls i new) books' now)) (sym (ap (answered w id noise text) at.is_call))
          (settled_at calls books now w holds order id (tells_answer id (offering_side at.call.offer)) (answered_in w.moment w.books at.call noise text) new out books' settles psks quiet i at
          (answered_same w.moment w.books at.call noise text settles.settled settles.is_settled).serial
          outs (tells ∙ (λ i. Sdp id (sym is_side i) (settles.text_is i) ∷ Live id ∷ [])))

    pub offer_at_refused : (way : Way) (noise text : List ℕ) (cause : Refusal)
        → ((c : Call) (b : world.Books) → CallStandsFor b.pairs (get_or calls i d) c → BooksStandFor books b → offered_in now b c way noise text ≡ Err cause)
        → (outs : List Outcome) → outs ≡ Refused (Some id) cause ∷ [] → IsAnswered outs (held calls books now) (offered_to w id way noise text (call_of w id))
    offer_at_refused way noise text cause answer outs tells =
        subst (IsAnswered outs (held calls books now)) (sym (offer_old (held calls books now) w holds id way noise text i e))
        (refused_old calls books now w holds order id (tells_text id (other_side (side_of way))) (offered_in w.moment w.books at.call way noise text) cause
        (subst (λ n. offered_in n w.books at.call way noise text ≡ Err cause) (sym holds.moment_is) (answer at.call w.books (at.stands d) holds.books)) outs tells)

    pub answer_refused : (noise text : List ℕ) (cause : Refusal)
        → ((c : Call) (b : world.Books) → CallStandsFor b.pairs (get_or calls i d) c → BooksStandFor books b → answered_in now b c noise text ≡ Err cause)
        → (outs : List Outcome) → outs ≡ Refused (Some id) cause ∷ [] → IsAnswered outs (held calls books now) (answered w id noise text (call_of w id))
    answer_refused noise text cause answer outs tells =
        subst (IsAnswered outs (held calls books now)) (sym (ap (answered w id noise text) at.is_call))
        (refused_old calls books now w holds order id (tells_answer id (offering_side at.call.offer)) (answered_in w.moment w.books at.call noise text) cause
        (subst (λ n. answered_in n w.books at.call noise text ≡ Err cause) (sym holds.moment_is) (answer at.call w.books (at.stands d) holds.books)) outs tells)

    -- memory may be wanting where the call takes an offer
    pub offer_at_needs : (r : Result (List ℕ) Fault) → r ≡ Err faults.NoMemory
        → ((pairs : List Pair) (c : Call) → CallStandsFor pairs (get_or calls i d) c → takes_offer c ≡ false → r ≡ Err (faults.Refused State)) → early_offer w (call_of w id) ≡ None
    offer_at_needs r is state = ap (early_offer w) at.is_call ∙ go (takes_offer at.call) refl
      where
        differ : (let r : Result (List ℕ) Fault = Err faults.NoMemory in r ≡ Err (faults.Refused State)) → ⊥
        differ e = cc

        go : (b : Bool) → takes_offer at.call ≡ b → early_offer w (Some at.call) ≡ None
        go true is_b = ap (λ b. cond b None (Some State)) is_b
        go false is_b = absurd (differ (sym is ∙ state w.books.pairs at.call (at.stands d) is_b))

    no_offer : (o : Option Offer) → None ≡ option_map (λ (o : Offer). o.side) o → o ≡ None
    no_offer None is = refl
    no_offer (Some o) is = absurd cc

    -- without an open offer
    pub answer_state : (noise text : List ℕ) → ((pairs : List Pair) (c : Call) → CallStandsFor pairs (get_or calls i d) c → None ≡ option_map (λ (o : Offer). o.side) c.offer)
        → (outs : List Outcome) → outs ≡ Refused (Some id) State ∷ [] → IsAnswered outs (held calls books now) (answered w id noise text (call_of w id))
    answer_state noise text of_side outs tells =
        subst (IsAnswered outs (held calls books now)) (sym (ap (answered w id noise text) at.is_call))
        (refused_old calls books now w holds order id (tells_answer id (offering_side at.call.offer)) (answered_in w.moment w.books at.call noise text) State
        (ap (answered_to w.moment w.books at.call noise text) (no_offer at.call.offer (of_side w.books.pairs at.call (at.stands d)))) outs tells)

    some_offer : (side : Side) (o : Option Offer) → Some side ≡ option_map (λ (o : Offer). o.side) o → is_some o ≡ true
    some_offer side None is = absurd cc
    some_offer side (Some o) is = refl

    pub answer_needs : (side : Side) → ((pairs : List Pair) (c : Call) → CallStandsFor pairs (get_or calls i d) c → Some side ≡ option_map (λ (o : Offer). o.side) c.offer) → early_answer (call_of w id) ≡ None
    answer_needs side of_side = ap early_answer at.is_call ∙ ap (λ b. cond b None (Some State)) (some_offer side at.call.offer (of_side w.books.pairs at.call (at.stands d)))
