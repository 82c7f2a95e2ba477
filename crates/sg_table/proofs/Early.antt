-- What the calls that are there tell of a signal, before memory is taken.
use Rattle.std.proofs.Common.{◌≡◌, ◌≤◌, ◌<◌, ℕ, Bool, true, false, cond, not, List, length, Option, Some, None, refl, sym, ap, ◌∙◌, ltb}
use Rattle.std.proofs.lemmas.Bool.{lt-ltb, le-ltb}
use Rattle.std.specs.List.{position}
use Rattle.std.specs.Option.{is_some}
use Rattle.sg_agreement.specs.Manual.{ManualCall, manual_medium}
use Rattle.sg_agreement.specs.Sides.{side_of, other_side}
use Rattle.sg_agreement.specs.declared.ways.Way.{Way}
use Rattle.sg_base.specs.declared.addresses.CallId.{CallId}
use Rattle.sg_base.specs.declared.faults.Refusal.TheVariants.{TableFull, CallKnown, CallUnknown}
use Rattle.sg_call.proofs.Paired.{stands_length}
use Rattle.sg_call.specs.Standing.{CallStandsFor}
use Rattle.sg_gateway.specs.CallSignals.{keyed_manually, offered_in}
use Rattle.sg_gateway.specs.Early.{early_manual, early_offer}
use Rattle.sg_gateway.specs.Signals.{Answer, refused, new_call, in_new, in_old, tells_live, tells_text, manual_answer, offered_to, answered}
use Rattle.sg_gateway.specs.World.{Call, World, call_of, is_full}
use Rattle.sg_table.proofs.Found.{CallAt, none_at, call_at}
use Rattle.sg_table.specs.Found.{has_id}
use Rattle.sg_table.specs.Standing.{Holds}
use Rattle.sg_table.specs.Values.{TableValue}

module _ (table : TableValue) (w : World) (holds : Holds table w) where
  count : length w.calls ≡ length table.calls
  count = sym (stands_length (CallStandsFor w.books.pairs) table.calls w.calls holds.calls)

  pub full : 256 ≤ length table.calls → is_full w ≡ true
  full le = ap (λ n. not (ltb n 256)) count ∙ ap not (le-ltb (length table.calls) 256 le)

  pub room : length table.calls < 256 → is_full w ≡ false
  room lt = ap (λ n. not (ltb n 256)) count ∙ ap not (lt-ltb (length table.calls) 256 lt)

  pub no_call : (id : CallId) → position (has_id id) table.calls ≡ None → call_of w id ≡ None
  no_call id e = none_at w.books.pairs id table.calls w.calls holds.calls e

  pub some_call : (id : CallId) (i : ℕ) → position (has_id id) table.calls ≡ Some i → CallAt w.books.pairs id table.calls w.calls i
  some_call id i e = call_at w.books.pairs id table.calls w.calls i holds.calls e

  is_there : (id : CallId) (o : Option ℕ) → position (has_id id) table.calls ≡ o → is_some (call_of w id) ≡ is_some o
  is_there id None e = ap is_some (no_call id e)
  is_there id (Some i) e = ap is_some (some_call id i e).is_call

  -- ---- a call that is keyed manually

  module _ (h : ManualCall) where
    abbrev pub made : Answer
    made = in_new w h.id (tells_live h.id) (keyed_manually w.moment w.books (new_call w h.id) (manual_medium h))

    manual_by : (b f : Bool) → is_some (call_of w h.id) ≡ b → is_full w ≡ f
        → manual_answer w h ≡ cond b (refused w (Some h.id) CallKnown) (cond f (refused w (Some h.id) TableFull) made)
    manual_by b f is_b is_f = (λ i. cond (is_b i) (refused w (Some h.id) CallKnown) (cond (is_f i) (refused w (Some h.id) TableFull) made))

    pub manual_known : is_some (position (has_id h.id) table.calls) ≡ true → manual_answer w h ≡ refused w (Some h.id) CallKnown
    manual_known e = manual_by true (is_full w) (is_there h.id _ refl ∙ e) refl

    pub manual_full : is_some (position (has_id h.id) table.calls) ≡ false → 256 ≤ length table.calls → manual_answer w h ≡ refused w (Some h.id) TableFull
    manual_full e f = manual_by false true (is_there h.id _ refl ∙ e) (full f)

    pub manual_new : is_some (position (has_id h.id) table.calls) ≡ false → length table.calls < 256 → manual_answer w h ≡ made
    manual_new e f = manual_by false false (is_there h.id _ refl ∙ e) (room f)

  pub manual_needs : (id : CallId) → is_some (position (has_id id) table.calls) ≡ false → length table.calls < 256 → early_manual w (call_of w id) ≡ None
  manual_needs id e f = go (call_of w id) (is_there id _ refl ∙ e)
    where
      go : (o : Option Call) → is_some o ≡ false → early_manual w o ≡ None
      go None is = ap (λ b. cond b (Some TableFull) None) (room f)
      go (Some c) is = absurd cc

  -- ---- an offer

  module _ (id : CallId) (way : Way) (noise text : List ℕ) where
    new_offer : (f : Bool) → position (has_id id) table.calls ≡ None → is_full w ≡ f
        → offered_to w id way noise text (call_of w id)
        ≡ cond f (refused w (Some id) TableFull) (in_new w id (tells_text id (other_side (side_of way))) (offered_in w.moment w.books (new_call w id) way noise text))
    new_offer f none is_f =
        ap (offered_to w id way noise text) (no_call id none)
        ∙ (λ i. cond (is_f i) (refused w (Some id) TableFull) (in_new w id (tells_text id (other_side (side_of way))) (offered_in w.moment w.books (new_call w id) way noise text)))

    pub offer_full : position (has_id id) table.calls ≡ None → 256 ≤ length table.calls → offered_to w id way noise text (call_of w id) ≡ refused w (Some id) TableFull
    offer_full none f = new_offer true none (full f)

    pub offer_new : position (has_id id) table.calls ≡ None → length table.calls < 256
        → offered_to w id way noise text (call_of w id) ≡ in_new w id (tells_text id (other_side (side_of way))) (offered_in w.moment w.books (new_call w id) way noise text)
    offer_new none f = new_offer false none (room f)

    pub offer_old : (i : ℕ) (e : position (has_id id) table.calls ≡ Some i)
        → offered_to w id way noise text (call_of w id)
        ≡ in_old w id (tells_text id (other_side (side_of way))) (offered_in w.moment w.books (some_call id i e).call way noise text)
    offer_old i e = ap (offered_to w id way noise text) (some_call id i e).is_call

  pub offer_needs : (id : CallId) → position (has_id id) table.calls ≡ None → length table.calls < 256 → early_offer w (call_of w id) ≡ None
  offer_needs id none f = ap (early_offer w) (no_call id none) ∙ ap (λ b. cond b (Some TableFull) None) (room f)

  -- ---- an answer

  pub answer_unknown : (id : CallId) (noise text : List ℕ) → position (has_id id) table.calls ≡ None → answered w id noise text (call_of w id) ≡ refused w (Some id) CallUnknown
  answer_unknown id noise text e = ap (answered w id noise text) (no_call id e)
