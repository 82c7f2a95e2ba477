-- A signal that is refused tells one cause, which the world before or what the signal brings shows; one that the world bars is
-- refused; and no end is told twice.
use Rattle.std.proofs.Common.{◌≡◌, ◌⊎◌, inl, inr, ℕ, ◌≤◌, Bool, true, false, cond, not, List, [], ◌∷◌, length, Option, Some, None, Result, Ok, Err, refl, sym, ap, ◌∙◌, subst, arith, eqb, ltb, ltb-true, eq-eqb}
use Rattle.std.proofs.lemmas.Bool.{cond-false, cond-true, eqb-true, false_from_ne_true, false≢true, lt-ltb, ltb-false, ne_eqb, not-false, not-true}
use Rattle.std.specs.Prelude.{◌||◌}
use Rattle.std.specs.List.{AllByRecursion, Any, filter}
use Rattle.std.specs.Option.{is_some}
use Rattle.sg_agreement.specs.Described.{is_other_count}
use Rattle.sg_agreement.specs.Generations.{generation_of}
use Rattle.sg_base.proofs.Cases.{guarded}
use Rattle.sg_base.specs.declared.faults.Refusal.TheVariants as causes
use Rattle.sg_outcome.specs.declared.outcomes.Outcome.TheVariants.{Refused}
use Rattle.sg_outcome.specs.declared.outcomes.Why.TheVariants as why
use Rattle.sg_psk.specs.Pairs.{has_pair}
use Rattle.sg_sdp.specs.declared.sdp.Sdp.{Sdp}
use Rattle.sg_session.proofs.Lists.{each_at}
use Rattle.sg_session.specs.Ring.{Installed, install}
use Rattle.sg_gateway.proofs.Common.{Answer, Bye, Call, CallId, Datagram, Event, IsBefore, IsRefusal, Manual, ManualCall, Offer, Offered, Outcome, Pair, Psk, Refusal, Reject, Settled, Signal, Signalled, Tick, Way, World}
use Rattle.sg_gateway.proofs.Common.{agreed_offer, answer_to, any_cases, any_none, any_weaker, at_hand, call_of, each_map, each_of, each_weaker, find_call, is_full, is_idle, keys_from, manual_medium, named, new_call}
use Rattle.sg_gateway.proofs.Common.{All, All-from_recursion, empty, none_some, some_is, turns, turns_from, other_side, refused, same_id, side_of, step, takes_offer, tells_ended, turn_of}
use Rattle.sg_gateway.proofs.CarriedOut.{same_call_id}
use Rattle.sg_gateway.proofs.Ordered.{pairs_filter}
use Rattle.sg_gateway.proofs.Agreements.{Agreements}
use Rattle.sg_gateway.proofs.Datagrams.{every_turn}
use Rattle.sg_gateway.proofs.Orderly.{Ordered}
use Rattle.sg_gateway.proofs.Pairs.{Pairs, each_two, pairs_map, pairs_to}
use Rattle.sg_gateway.proofs.Reached.{Anything, anything_had, anything_on, ordered_worlds}
use Rattle.sg_gateway.proofs.Refusals.{refused_first}
use Rattle.sg_gateway.proofs.Signals.{found, is_found}
use Rattle.sg_gateway.proofs.Lists.{each_of_list}
use Rattle.sg_gateway.proofs.StepCases.{after_pair, after_tick, each_datagram, each_signal}
use Rattle.sg_gateway.specs.CallSignals.{answered_to, has_begun, keyed_manually, media_of, offered_in}
use Rattle.sg_gateway.specs.Early.{early, early_answer, early_bye, early_manual, early_offer}
use Rattle.sg_gateway.specs.Signals.{Answered, answered, in_new, in_old, left, offered_to, offering_side, rejected, rejected_to, tells_answer, tells_live, tells_text}
use Rattle.sg_conduct.proofs.Alone.{AllBegun, event_begun, has_names, no_names, unknown}
use Rattle.sg_conduct.proofs.Causes.{after_ok_err, err_is, ok_err, ring_refuses, stop_if_err}
use Rattle.sg_conduct.proofs.OfferRefusals.{offer_refused}
use Rattle.sg_conduct.specs.Staying.{HasBegun}
use Rattle.sg_conduct.specs.Refusals.{AreInOrder, AreOfLine, BarredIsRefused, EndsAreOnce, FitsCall, HasOpenOffer, IsBarred, IsThere, KeysSpeak, OfferSpeaks, RefusalShowsCause, Speaks}

-- ---- the call of an id

none_of_id : (id : CallId) (cs : List Call) → AllByRecursion (λ c. ¬ c.id ≡ id) cs → find_call (λ c. same_id c.id id) cs ≡ None
none_of_id id [] none = refl
none_of_id id (c ∷ cs) none = cond-false (same_id c.id id) (Some c) (find_call (λ c. same_id c.id id) cs) (ne_eqb c.id.0 id.0 (λ e. none.0 (λ i. record { 0 = e i }))) ∙ none_of_id id cs none.1

one_of_id : (id : CallId) (P : Call → Type 0) (cs : List Call) → Pairs IsBefore cs → Any (λ c. (c.id ≡ id) × P c) cs → (c : Call) × (find_call (λ c. same_id c.id id) cs ≡ Some c) × P c
one_of_id id P [] before any = absurd (any_none _ any)
one_of_id id P (c ∷ cs) before any = elim (any_cases (λ c. (c.id ≡ id) × P c) c cs any) [
  | inl here ↦ (c, cond-true (same_id c.id id) (Some c) (find_call (λ c. same_id c.id id) cs) (eq-eqb c.id.0 id.0 (ap (λ (i : CallId). i.0) here.0)), here.1)
  | inr later ↦
      let rest = one_of_id id P cs before.1 later in
      let at = each_at (IsBefore c) (λ c. (c.id ≡ id) × P c) cs before.0 later in
      (rest.0, cond-false (same_id c.id id) (Some c) (find_call (λ c. same_id c.id id) cs) (ne_eqb c.id.0 id.0 (λ e. at.1.id ((λ i. record { 0 = e i }) ∙ sym at.2.0))) ∙ rest.1, rest.2)
]

module _ (w : World) (before : Pairs IsBefore w.calls) (begun : AllBegun w) where
  there : (id : CallId) (c : Call) → call_of w id ≡ Some c → (P : Call → Type 0) → P c → IsThere w id P
  there id c at P p = any_weaker (λ x. x ≡ c) (λ x. (x.id ≡ id) × P x) (λ x same. (ap (λ (x : Call). x.id) same ∙ same_call_id id c w.calls at, subst P (sym same) p)) w.calls (is_found _ w.calls c at)

  -- a call that is there is the one that is found
  one_found : (id : CallId) (c d : Call) → call_of w id ≡ Some c → Any (λ x. x ≡ d) w.calls → d.id ≡ id → d ≡ c
  one_found id c d at here own =
      let is = one_of_id id (λ x. x ≡ d) w.calls before (any_weaker (λ x. x ≡ d) (λ x. (x.id ≡ id) × (x ≡ d)) (λ x same. (ap (λ (x : Call). x.id) same ∙ own, same)) w.calls here) in
      sym is.2 ∙ some_is is.0 c (sym is.1 ∙ at)

  counts : (c : Call) → HasBegun c → media_of c ≡ Some c.media
  counts c is = cond-true (has_begun c) (Some c.media) None (go c.offer refl (eqb c.generations 0) refl)
    where
      go : (o : Option Offer) → c.offer ≡ o → (b : Bool) → eqb c.generations 0 ≡ b → is_some o || not b ≡ true
      go (Some o) is_open b zero = refl
      go None none false more = refl
      go None none true zero = let o = is (eqb-true c.generations 0 zero) in absurd (none_some o.0 (sym none ∙ o.1))

  fits_call : (id : CallId) (c : Call) → call_of w id ≡ Some c → (s : Sdp) → is_other_count (media_of c) (length s.media) ≡ false → FitsCall w id s
  fits_call id c at s same =
      let own = subst (λ (o : Option ℕ). is_other_count o (length s.media) ≡ false) (counts c (found HasBegun (λ x. same_id x.id id) w.calls c at begun)) same in
      each_of_list (λ d. d.id ≡ id → length s.media ≡ d.media) w.calls
      (λ d here of_id. eqb-true (length s.media) c.media (not-false _ own) ∙ ap (λ (c : Call). c.media) (sym (one_found id c d at here of_id)))

  no_room : is_full w ≡ true → 256 ≤ length w.calls
  no_room full = ltb-false (length w.calls) 256 (not-true (ltb (length w.calls) 256) full)

  -- ---- what a refusal tells

  abbrev Told : Signal → List Outcome → Type 0
  Told signal os = Any IsRefusal os → (cause : Refusal) × (os ≡ Refused (named signal) cause ∷ []) × (IsBarred w signal cause ⊎ Speaks w signal cause)

  taken : (signal : Signal) (os : List Outcome) → AllByRecursion (λ o. ¬ IsRefusal o) os → Told signal os
  taken signal os none any = let at = each_at (λ o. ¬ IsRefusal o) IsRefusal os none any in absurd (at.1 at.2)

  bars : (signal : Signal) (cause : Refusal) → IsBarred w signal cause → Told signal (Refused (named signal) cause ∷ [])
  bars signal cause is any = (cause, refl, inl is)

  speaks : (signal : Signal) (cause : Refusal) → Speaks w signal cause → Told signal (Refused (named signal) cause ∷ [])
  speaks signal cause is any = (cause, refl, inr is)

  tick_told : (now : ℕ) (b : Bool) → ltb now w.moment ≡ b → Told (Tick now) (cond b (refused w None (causes.TickBack w.moment)) (after_tick w now)).outcomes
  tick_told now true back = bars (Tick now) (causes.TickBack w.moment) (refl, ltb-true now w.moment back)
  tick_told now false on =
      taken (Tick now) _ (each_map (λ c. Unit {0}) (λ o. ¬ IsRefusal o) (tells_ended why.Idle) (λ c u no. no) (filter (is_idle now) w.calls) (each_of _ (λ c. tt) (filter (is_idle now) w.calls)))

  pair_told : (p : Pair) (a b : Bool) → has_pair w.books.pairs p.own p.peer ≡ a → ltb (length w.books.pairs) 64 ≡ b
      → Told (Psk p) (cond a (refused w None causes.PskKnown) (cond b (after_pair w p) (refused w None causes.PskFull))).outcomes
  pair_told p true b known room = bars (Psk p) causes.PskKnown (has_names w p known)
  pair_told p false true other room = taken (Psk p) [] tt
  pair_told p false false other full = bars (Psk p) causes.PskFull (no_names w p other, ltb-false (length w.books.pairs) 64 full)

  module _ (h : ManualCall) where
    abbrev keys : List Installed
    keys = keys_from w.made 0 0 (Some (manual_medium h) ∷ [])

    keys_speak : (cause : Refusal) → keyed_manually w.moment w.books (new_call w h.id) (manual_medium h) ≡ Err cause → KeysSpeak w.books.ring h cause
    keys_speak cause e = elim (stop_if_err (has_begun (new_call w h.id)) causes.State cause _ e) [
      | inl begun ↦ absurd (false≢true begun.0)
      | inr keyed ↦ elim (after_ok_err (generation_of w.made 0 w.books.ring (Some (manual_medium h) ∷ [])) _ cause keyed.1) [
        | inl fails ↦ elim (after_ok_err (install w.books.ring keys) _ cause fails) [
          | inl clash ↦ ring_refuses w.books.ring (AreOfLine h) (KeysSpeak w.books.ring h) (λ number is. is) (λ is. is) keys refl (let two : length keys ≡ 2 = refl in omega (arith, two)) cause clash
          | inr x ↦ absurd (ok_err _ cause x.2)
        ]
        | inr x ↦ absurd (ok_err _ cause x.2)
      ]
    ]

    keyed_told : (q : Result Settled Refusal) → keyed_manually w.moment w.books (new_call w h.id) (manual_medium h) ≡ q → Told (Manual h) (in_new w h.id (tells_live h.id) q).outcomes
    keyed_told (Err cause) e = speaks (Manual h) cause (keys_speak cause e)
    keyed_told (Ok r) e = taken (Manual h) _ ((λ no. no), ((λ no. no), tt))

    manual_told : (o : Option Call) → call_of w h.id ≡ o → (b : Bool) → is_full w ≡ b
        → Told (Manual h) (cond (is_some o) (refused w (Some h.id) causes.CallKnown) (cond b (refused w (Some h.id) causes.TableFull)
        (in_new w h.id (tells_live h.id) (keyed_manually w.moment w.books (new_call w h.id) (manual_medium h))))).outcomes
    manual_told (Some c) at b full = bars (Manual h) causes.CallKnown (there h.id c at (λ c. Unit {0}) tt)
    manual_told None none true full = bars (Manual h) causes.TableFull (unknown w h.id none, no_room full)
    manual_told None none false room = keyed_told (keyed_manually w.moment w.books (new_call w h.id) (manual_medium h)) refl

  module _ (id : CallId) (way : Way) (noise text : List ℕ) where
    abbrev offer : Signal
    offer = Offered id way noise text

    not_taking : (m : Bool) (o : Option Offer) → not (not (m || is_some o)) ≡ true → (m ≡ true) ⊎ ((x : Offer) × (o ≡ Some x))
    not_taking true o e = inl refl
    not_taking false (Some x) e = inr (x, refl)
    not_taking false None e = absurd cc

    by_stage : (c : Call) → ((n : ℕ) → media_of c ≡ Some n → (many : ℕ) → ¬ many ≡ n → IsThere w id (λ d. ¬ many ≡ d.media))
        → ((s : Sdp) → is_other_count (media_of c) (length s.media) ≡ false → FitsCall w id s) → (cause : Refusal) → offered_in w.moment w.books c way noise text ≡ Err cause
        → ((not (takes_offer c) ≡ true) × (causes.State ≡ cause)) ⊎ OfferSpeaks w id way text cause
    by_stage c counted fits cause e = elim (stop_if_err (not (takes_offer c)) causes.State cause _ e) [
      | inl state ↦ inl state
      | inr agreed ↦ elim (after_ok_err (agreed_offer (at_hand w.moment w.books c noise) way text) _ cause agreed.1) [
        | inl fails ↦ inr (offer_refused w id c noise way text counted fits cause fails)
        | inr x ↦ absurd (ok_err _ cause x.2)
      ]
    ]

    new_told : call_of w id ≡ None → (q : Result Settled Refusal) → offered_in w.moment w.books (new_call w id) way noise text ≡ q → Told offer (in_new w id (tells_text id (other_side (side_of way))) q).outcomes
    new_told none (Err cause) e = elim (by_stage (new_call w id) (λ n is. absurd (none_some n is)) (λ s same. each_weaker _ _ (λ c other is. absurd (other is)) w.calls (unknown w id none)) cause e) [
      | inl state ↦ absurd (false≢true state.0)
      | inr is ↦ speaks offer cause is
    ]
    new_told none (Ok r) e = taken offer _ ((λ no. no), ((λ no. no), tt))

    old_told : (c : Call) → call_of w id ≡ Some c → (q : Result Settled Refusal) → offered_in w.moment w.books c way noise text ≡ q → Told offer (in_old w id (tells_text id (other_side (side_of way))) q).outcomes
    old_told c at (Err cause) e =
        elim (by_stage c (λ n is many other. there id c at (λ d. ¬ many ≡ d.media) (λ same. other (same ∙ (guarded (has_begun c) c.media n is).1))) (fits_call id c at) cause e) [
          | inl state ↦ subst (λ cause. Told offer (Refused (Some id) cause ∷ [])) state.1 (bars offer causes.State (there id c at (λ c. (c.manual ≡ true) ⊎ HasOpenOffer c) (not_taking c.manual c.offer state.0)))
          | inr is ↦ speaks offer cause is
        ]
    old_told c at (Ok r) e = taken offer _ ((λ no. no), tt)

    offer_told : (o : Option Call) → call_of w id ≡ o → Told offer (offered_to w id way noise text o).outcomes
    offer_told (Some c) at = old_told c at (offered_in w.moment w.books c way noise text) refl
    offer_told None none = go (is_full w) refl
      where
        go : (b : Bool) → is_full w ≡ b
            → Told offer (cond b (refused w (Some id) causes.TableFull) (in_new w id (tells_text id (other_side (side_of way))) (offered_in w.moment w.books (new_call w id) way noise text))).outcomes
        go true full = bars offer causes.TableFull (unknown w id none, no_room full)
        go false room = new_told none (offered_in w.moment w.books (new_call w id) way noise text) refl

  module _ (id : CallId) (noise text : List ℕ) where
    abbrev answers : Signal
    answers = Answered id noise text

    open_told : (c : Call) → call_of w id ≡ Some c → (o : Option Offer) → c.offer ≡ o → (q : Result Settled Refusal) → answered_to w.moment w.books c noise text o ≡ q
        → Told answers (in_old w id (tells_answer id (offering_side o)) q).outcomes
    open_told c at None none (Err cause) e =
        subst (λ cause. Told answers (Refused (Some id) cause ∷ [])) (err_is {X = Settled} causes.State cause e) (bars answers causes.State (there id c at (λ c. c.offer ≡ None) none))
    open_told c at None none (Ok r) e = absurd cc
    open_told c at (Some o) is_open (Err cause) e = speaks answers cause (there id c at HasOpenOffer (o, is_open))
    open_told c at (Some o) is_open (Ok r) e = taken answers _ ((λ no. no), ((λ no. no), tt))

    answer_told : (o : Option Call) → call_of w id ≡ o → Told answers (answered w id noise text o).outcomes
    answer_told None none = bars answers causes.CallUnknown (unknown w id none)
    answer_told (Some c) at = open_told c at c.offer refl (answered_to w.moment w.books c noise text c.offer) refl

  module _ (id : CallId) where
    closing_told : (c d : Call) → call_of w id ≡ Some c → (o : Option Offer) → c.offer ≡ o → (b : Bool) → Told (Reject id) (rejected_to w c (cond (is_some o) (Ok (cond b None (Some d))) (Err causes.State))).outcomes
    closing_told c d at None none b =
        subst (λ i. Told (Reject id) (Refused (Some i) causes.State ∷ [])) (sym (same_call_id id c w.calls at)) (bars (Reject id) causes.State (there id c at (λ c. c.offer ≡ None) none))
    closing_told c d at (Some o) is_open true = taken (Reject id) _ ((λ no. no), tt)
    closing_told c d at (Some o) is_open false = taken (Reject id) [] tt

    rejection_told : (o : Option Call) → call_of w id ≡ o → Told (Reject id) (rejected w id o).outcomes
    rejection_told None none = bars (Reject id) causes.CallUnknown (unknown w id none)
    rejection_told (Some c) at = closing_told c (record c { offer = None; moment = w.moment }) at c.offer refl (eqb c.generations 0)

    bye_told : (o : Option Call) → call_of w id ≡ o → Told (Bye id) (left w id o).outcomes
    bye_told None none = bars (Bye id) causes.CallUnknown (unknown w id none)
    bye_told (Some c) at = taken (Bye id) _ ((λ no. no), tt)

  signal_told : (signal : Signal) → Told signal (answer_to w signal).outcomes
  signal_told (Tick now) = tick_told now (ltb now w.moment) refl
  signal_told (Psk p) = pair_told p (has_pair w.books.pairs p.own p.peer) (ltb (length w.books.pairs) 64) refl refl
  signal_told (Manual h) = manual_told h (call_of w h.id) refl (is_full w) refl
  signal_told (Offered id way noise text) = offer_told id way noise text (call_of w id) refl
  signal_told (Answered id noise text) = answer_told id noise text (call_of w id) refl
  signal_told (Reject id) = rejection_told id (call_of w id) refl
  signal_told (Bye id) = bye_told id (call_of w id) refl

  pub refusal_shows : (e : Event) → RefusalShowsCause (turn_of w e)
  refusal_shows e signal is =
      subst (λ (e : Event). Any IsRefusal (step w e).outcomes → (cause : Refusal) × ((step w e).outcomes ≡ Refused (named signal) cause ∷ []) × (IsBarred w signal cause ⊎ Speaks w signal cause)) (sym is) (signal_told signal)

-- ---- what the world bars

module _ (w : World) (before : Pairs IsBefore w.calls) where
  abbrev Tells : Signal → Refusal → Type 0
  Tells signal cause = (answer_to w signal).outcomes ≡ Refused (named signal) cause ∷ []

  first : (signal : Signal) (cause : Refusal) → early w signal ≡ Some cause → Tells signal cause
  first signal cause e = ap (λ (a : Answer). a.outcomes) (refused_first w signal cause e)

  is_known : (p : Pair) (b : Bool) → has_pair w.books.pairs p.own p.peer ≡ b → IsBarred w (Psk p) causes.PskKnown → b ≡ true
  is_known p true is has = refl
  is_known p false is has = absurd (no_names w p is has)

  full : 256 ≤ length w.calls → is_full w ≡ true
  full le = ap not (false_from_ne_true (ltb (length w.calls) 256) (λ e. let lt = ltb-true (length w.calls) 256 e in omega (arith, lt, le)))

  no_offer : (c : Call) (m : Bool) (o : Option Offer) → (m ≡ true) ⊎ ((x : Offer) × (o ≡ Some x)) → m || is_some o ≡ true
  no_offer c true o is = refl
  no_offer c false (Some x) is = refl
  no_offer c false None (inl is) = absurd cc
  no_offer c false None (inr is) = absurd (none_some is.0 is.1)

  open_early : (id : CallId) → IsThere w id (λ c. c.offer ≡ None) → early_answer (call_of w id) ≡ Some causes.State
  open_early id is = let at = one_of_id id (λ c. c.offer ≡ None) w.calls before is in ap early_answer at.1 ∙ ap (λ (o : Option Offer). cond (is_some o) None (Some causes.State)) at.2

  pub barred_tells : (signal : Signal) (cause : Refusal) → IsBarred w signal cause → Tells signal cause
  barred_tells (Tick now) (causes.TickBack last) is =
      ap (λ (a : Answer). a.outcomes) (cond-true (ltb now w.moment) (refused w None (causes.TickBack w.moment)) (after_tick w now) (lt-ltb now w.moment is.1))
      ∙ ap (λ n. Refused None (causes.TickBack n) ∷ []) (sym is.0)
  barred_tells (Psk p) causes.PskKnown is = first (Psk p) causes.PskKnown (cond-true (has_pair w.books.pairs p.own p.peer) (Some causes.PskKnown) _ (is_known p (has_pair w.books.pairs p.own p.peer) refl is))
  barred_tells (Psk p) causes.PskFull is = first (Psk p) causes.PskFull
      (cond-false (has_pair w.books.pairs p.own p.peer) (Some causes.PskKnown) _ (false_from_ne_true _ (λ e. is.0 (has_names w p e)))
      ∙ cond-false (ltb (length w.books.pairs) 64) None (Some causes.PskFull) (false_from_ne_true _ (λ e. let lt = ltb-true (length w.books.pairs) 64 e in let le = is.1 in omega (arith, lt, le))))
  barred_tells (Manual h) causes.CallKnown is = let at = one_of_id h.id (λ c. Unit {0}) w.calls before is in first (Manual h) causes.CallKnown (ap (early_manual w) at.1)
  barred_tells (Manual h) causes.TableFull is =
      first (Manual h) causes.TableFull (ap (early_manual w) (none_of_id h.id w.calls is.0) ∙ cond-true (is_full w) (Some causes.TableFull) None (full is.1))
  barred_tells (Offered id way noise text) causes.TableFull is =
      first (Offered id way noise text) causes.TableFull (ap (early_offer w) (none_of_id id w.calls is.0) ∙ cond-true (is_full w) (Some causes.TableFull) None (full is.1))
  barred_tells (Offered id way noise text) causes.State is =
      let at = one_of_id id (λ c. (c.manual ≡ true) ⊎ HasOpenOffer c) w.calls before is in
      first (Offered id way noise text) causes.State (ap (early_offer w) at.1 ∙ cond-false (takes_offer at.0) None (Some causes.State) (ap not (no_offer at.0 at.0.manual at.0.offer at.2)))
  barred_tells (Answered id noise text) causes.CallUnknown is = first (Answered id noise text) causes.CallUnknown (ap early_answer (none_of_id id w.calls is))
  barred_tells (Answered id noise text) causes.State is = first (Answered id noise text) causes.State (open_early id is)
  barred_tells (Reject id) causes.CallUnknown is = first (Reject id) causes.CallUnknown (ap early_answer (none_of_id id w.calls is))
  barred_tells (Reject id) causes.State is = first (Reject id) causes.State (open_early id is)
  barred_tells (Bye id) causes.CallUnknown is = first (Bye id) causes.CallUnknown (ap early_bye (none_of_id id w.calls is))
  barred_tells signal cause is = absurd is

  pub barred_refused : (e : Event) → BarredIsRefused (turn_of w e)
  barred_refused e signal cause is bars = subst (λ (e : Event). (step w e).outcomes ≡ Refused (named signal) cause ∷ []) (sym is) (barred_tells signal cause bars)

  -- ---- ends

  ends_in_order : (a b : Call) → IsBefore a b → AreInOrder (tells_ended why.Idle a) (tells_ended why.Idle b)
  ends_in_order a b is id id' slot slot' media media' why why' of_a of_b =
      let one : a.id ≡ id = cc in
      let other : b.id ≡ id' = cc in
      let low : a.slot ≡ slot = cc in
      let high : b.slot ≡ slot' = cc in
      ((let lt = is.slot in omega (arith, lt, low, high)), (λ same. is.id (one ∙ same ∙ sym other)))

  abbrev InOrder : List Outcome → Type 0
  InOrder os = Pairs AreInOrder os

  signal_in_order : (signal : Signal) → InOrder (answer_to w signal).outcomes
  signal_in_order = each_signal w (λ signal a. InOrder a.outcomes) (record {
    refuses = λ signal id cause. (tt, tt);
    ticks = λ now on. pairs_map IsBefore (λ c. Unit {0}) AreInOrder (tells_ended why.Idle) (λ a b u v is. ends_in_order a b is) (filter (is_idle now) w.calls)
        (pairs_filter IsBefore (is_idle now) w.calls before) (each_of _ (λ c. tt) (filter (is_idle now) w.calls));
    pairs = λ p. tt;
    keys = λ h none room ring is. (((λ id id' slot slot' media media' why why' a b. absurd cc), tt), (tt, tt));
    begins = λ id way noise text none room a agreed. (((λ id id' slot slot' media media' why why' a b. absurd cc), tt), (tt, tt));
    offers = λ id way noise text c at a agreed. (tt, tt);
    answers = λ id noise text c at o is_open g agreed ring is. (((λ id id' slot slot' media media' why why' a b. absurd cc), tt), (tt, tt));
    rejects = λ id c at none. (tt, tt);
    closes = λ id c at. tt;
    leaves = λ id c at. (tt, tt);
  })

  pub ends_once : (e : Event) → EndsAreOnce (turn_of w e)
  ends_once (Signalled signal) = pairs_to AreInOrder (answer_to w signal).outcomes (signal_in_order signal)
  ends_once (Datagram port from d) = pairs_to AreInOrder _ (each_datagram w port (λ h. InOrder h.outcomes) (record { drops = λ cause. (tt, tt); puts = λ c at s t octets held. (tt, tt) }) from d.items)

-- ---- a run

each_begun : (w : World) → AllBegun w → (es : List Event) → AllByRecursion (λ t. AllBegun t.before) (turns_from w es)
each_begun w begun [] = tt
each_begun w begun (e ∷ es) = (begun, each_begun (step w e).world (event_begun w begun e) es)

pub refusals_show : Agreements → (es : List Event) → All RefusalShowsCause (turns es)
refusals_show laws es = All-from_recursion RefusalShowsCause (turns es)
    (every_turn Anything anything_on anything_had (λ t. Ordered t.before × AllBegun t.before) RefusalShowsCause (λ past w e kept is. refusal_shows w is.0.calls is.1 e) es
    (each_two _ _ _ (λ t ordered begun. (ordered, begun)) (turns es) (ordered_worlds laws es).0 (each_begun empty tt es)))
