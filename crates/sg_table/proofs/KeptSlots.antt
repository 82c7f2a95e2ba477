-- A signal that leaves as many calls as there were leaves their slots.
use Rattle.std.proofs.Common.{◌≡◌, ℕ, suc, ◌≤◌, Bool, true, false, cond, not, List, [], ◌∷◌, length, map, Option, Some, None, Result, Ok, Err, refl, sym, ap, ◌∙◌, arith, eqb, ltb}
use Rattle.std.proofs.lemmas.Bool.{eqb-true}
use Rattle.std.proofs.lemmas.List.{length-map}
use Rattle.std.specs.List.{AllByRecursion, Any, filter}
use Rattle.std.specs.Option.{is_some}
use Rattle.sg_agreement.specs.Manual.{ManualCall, manual_medium}
use Rattle.sg_agreement.specs.Sides.{side_of, other_side}
use Rattle.sg_agreement.specs.declared.ways.Way.{Way}
use Rattle.sg_base.specs.declared.addresses.CallId.{CallId}
use Rattle.sg_base.specs.declared.faults.Refusal.{Refusal}
use Rattle.sg_base.specs.declared.faults.Refusal.TheVariants.{State}
use Rattle.sg_call.proofs.Paired.{stands_length}
use Rattle.sg_call.specs.Standing.{CallStandsFor}
use Rattle.sg_call.specs.Values.{CallValue}
use Rattle.sg_gateway.proofs.Ordered.{one_serial}
use Rattle.sg_gateway.proofs.Pairs.{Pairs}
use Rattle.sg_gateway.proofs.Signals.{is_found}
use Rattle.sg_gateway.specs.CallSignals.{keyed_manually, offered_in, answered_in, is_idle, call_at_tick, drops_earlier, without_earlier}
use Rattle.sg_gateway.specs.Generations.{Settled}
use Rattle.sg_gateway.specs.Order.{IsBefore, EachWorldIsOrderly}
use Rattle.sg_gateway.specs.Signals.{Signal, Tick, Psk, Manual, Offered, Answered, Reject, Bye, Answer, ticked, with_pair, new_call, in_new, in_old, tells_live, manual_answer, tells_text, offered_to, offering_side, tells_answer, answered, rejected_to, rejected, left, answer_to}
use Rattle.sg_gateway.specs.Step.{Event}
use Rattle.sg_gateway.specs.World.{Call, World, call_of, is_full, with_call, without_call, and_call}
use Rattle.sg_leg.specs.Pairs.{EachPair}
use Rattle.sg_outcome.specs.declared.outcomes.Outcome.{Outcome}
use Rattle.sg_psk.specs.Pairs.{has_pair}
use Rattle.sg_psk.specs.declared.pairs.Pair.{Pair}
use Rattle.sg_session.proofs.Lists.{both}
use Rattle.sg_table.proofs.Answered.{order_of}
use Rattle.sg_table.proofs.Indexed.{slots_of, indexed_still}
use Rattle.sg_table.proofs.Pairing.{by_pairs}
use Rattle.sg_table.proofs.Settled.{IsSame, offered_same, answered_same}
use Rattle.sg_table.specs.Standing.{Holds, TableStandsFor}
use Rattle.sg_table.specs.Values.{TableValue, shapes_of, AreIndexed}

abbrev slots : List Call → List ℕ
slots cs = map (λ (c : Call). c.slot) cs

-- ---- lists of calls

filter_low : (test : Call → Bool) (cs : List Call) → length (filter test cs) ≤ length cs
filter_low test [] = omega arith
filter_low test (c ∷ cs) = let le = filter_low test cs in both (λ l. length l ≤ suc (length cs)) (test c) (c ∷ filter test cs) (filter test cs) (omega (arith, le)) (omega (arith, le))

-- where none goes, all stay
all_stay : (test : Call → Bool) (cs : List Call) → length (filter test cs) ≡ length cs → filter test cs ≡ cs
all_stay test [] e = refl
all_stay test (c ∷ cs) e = go (test c) e (all_stay test cs) (filter_low test cs)
  where
    go : (b : Bool) → length (cond b (c ∷ filter test cs) (filter test cs)) ≡ suc (length cs) → (length (filter test cs) ≡ length cs → filter test cs ≡ cs) → length (filter test cs) ≤ length cs
        → cond b (c ∷ filter test cs) (filter test cs) ≡ c ∷ cs
    go true e rest le = ap (λ l. c ∷ l) (rest (omega (arith, e)))
    go false e rest le = absurd (omega (arith, e, le))

one_more : (d : Call) (cs : List Call) → length (and_call d cs) ≡ suc (length cs)
one_more d [] = refl
one_more d (c ∷ cs) = both (λ l. length l ≡ suc (suc (length cs))) (ltb d.slot c.slot) (d ∷ (c ∷ cs)) (c ∷ and_call d cs) refl (ap suc (one_more d cs))

-- a call in the place of one that has its slot
slots_with : (c d : Call) (cs : List Call) → d.serial ≡ c.serial → d.slot ≡ c.slot → AllByRecursion (λ x. x.serial ≡ c.serial → x ≡ c) cs → slots (with_call d cs) ≡ slots cs
slots_with c d [] serial slot one = refl
slots_with c d (x ∷ cs) serial slot one = (λ i. at (eqb x.serial d.serial) refl i ∷ slots_with c d cs serial slot one.1 i)
  where
    at : (b : Bool) → eqb x.serial d.serial ≡ b → (cond b d x).slot ≡ x.slot
    at true is = slot ∙ ap (λ (c : Call). c.slot) (sym (one.0 (eqb-true _ _ is ∙ serial)))
    at false is = refl

slots_ticked : (now : ℕ) (cs : List Call) → slots (map (call_at_tick now) cs) ≡ slots cs
slots_ticked now [] = refl
slots_ticked now (c ∷ cs) = (λ i. both (λ (d : Call). d.slot ≡ c.slot) (drops_earlier now c) (without_earlier c) c refl refl i ∷ slots_ticked now cs i)

-- ---- signals

abbrev Keeps : World → Answer → Type 0
Keeps w a = length a.world.calls ≡ length w.calls → slots a.world.calls ≡ slots w.calls

module _ (w : World) (order : Pairs IsBefore w.calls) where
  new_keeps : (id : CallId) (told : Settled → List Outcome) (r : Result Settled Refusal) → Keeps w (in_new w id told r)
  new_keeps id told (Err cause) e = refl
  new_keeps id told (Ok r) e = let more = one_more r.call w.calls in absurd (omega (arith, e, more))

  at_its_place : (c d : Call) → Any (λ x. x ≡ c) w.calls → d.serial ≡ c.serial → d.slot ≡ c.slot → slots (with_call d w.calls) ≡ slots w.calls
  at_its_place c d a serial slot = slots_with c d w.calls serial slot (one_serial c w.calls order a)

  old_keeps : (id : CallId) (told : Settled → List Outcome) (c : Call) → Any (λ x. x ≡ c) w.calls → (q : Result Settled Refusal) → ((r : Settled) → q ≡ Ok r → IsSame c r) → Keeps w (in_old w id told q)
  old_keeps id told c a (Err cause) same e = refl
  old_keeps id told c a (Ok r) same e = let is = same r refl in at_its_place c r.call a is.serial is.slot

  tick_keeps : (now : ℕ) → Keeps w (ticked w now)
  tick_keeps now = both (Keeps w) (ltb now w.moment) _ _ (λ e. refl) (λ e.
      slots_ticked now (filter (λ c. not (is_idle now c)) w.calls)
      ∙ ap slots (all_stay (λ c. not (is_idle now c)) w.calls (sym (length-map (filter (λ c. not (is_idle now c)) w.calls) (call_at_tick now)) ∙ e)))

  pair_keeps : (p : Pair) → Keeps w (with_pair w p)
  pair_keeps p = both (Keeps w) (has_pair w.books.pairs p.own p.peer) _ _ (λ e. refl) (both (Keeps w) (ltb (length w.books.pairs) 64) _ _ (λ e. refl) (λ e. refl))

  manual_keeps : (h : ManualCall) → Keeps w (manual_answer w h)
  manual_keeps h = both (Keeps w) (is_some (call_of w h.id)) _ _ (λ e. refl) (both (Keeps w) (is_full w) _ _ (λ e. refl) (new_keeps h.id (tells_live h.id) (keyed_manually w.moment w.books (new_call w h.id) (manual_medium h))))

  offer_keeps : (id : CallId) (way : Way) (noise text : List ℕ) (o : Option Call) → call_of w id ≡ o → Keeps w (offered_to w id way noise text o)
  offer_keeps id way noise text None is =
      both (Keeps w) (is_full w) _ _ (λ e. refl) (new_keeps id (tells_text id (other_side (side_of way))) (offered_in w.moment w.books (new_call w id) way noise text))
  offer_keeps id way noise text (Some c) is =
      old_keeps id (tells_text id (other_side (side_of way))) c (is_found _ w.calls c is) (offered_in w.moment w.books c way noise text) (λ r e. offered_same w.moment w.books c way noise text r e)

  answer_keeps : (id : CallId) (noise text : List ℕ) (o : Option Call) → call_of w id ≡ o → Keeps w (answered w id noise text o)
  answer_keeps id noise text None is = λ e. refl
  answer_keeps id noise text (Some c) is =
      old_keeps id (tells_answer id (offering_side c.offer)) c (is_found _ w.calls c is) (answered_in w.moment w.books c noise text) (λ r e. answered_same w.moment w.books c noise text r e)

  ending_keeps : (serial : ℕ) → length (without_call serial w.calls) ≡ length w.calls → slots (without_call serial w.calls) ≡ slots w.calls
  ending_keeps serial e = ap slots (all_stay (λ c. not (eqb c.serial serial)) w.calls e)

  reject_keeps : (id : CallId) (o : Option Call) → call_of w id ≡ o → Keeps w (rejected w id o)
  reject_keeps id None is = λ e. refl
  reject_keeps id (Some c) is = go (is_some c.offer) (eqb c.generations 0)
    where
      go : (a b : Bool) → Keeps w (rejected_to w c (cond a (Ok (cond b None (Some (record c { offer = None; moment = w.moment })))) (Err State)))
      go true true e = ending_keeps c.serial e
      go true false e = at_its_place c (record c { offer = None; moment = w.moment }) (is_found _ w.calls c is) refl refl
      go false b e = refl

  bye_keeps : (id : CallId) (o : Option Call) → call_of w id ≡ o → Keeps w (left w id o)
  bye_keeps id None is e = refl
  bye_keeps id (Some c) is e = ending_keeps c.serial e

  signal_keeps : (g : Signal) → Keeps w (answer_to w g)
  signal_keeps (Tick now) = tick_keeps now
  signal_keeps (Psk p) = pair_keeps p
  signal_keeps (Manual h) = manual_keeps h
  signal_keeps (Offered id way noise text) = offer_keeps id way noise text (call_of w id) refl
  signal_keeps (Answered id noise text) = answer_keeps id noise text (call_of w id) refl
  signal_keeps (Reject id) = reject_keeps id (call_of w id) refl
  signal_keeps (Bye id) = bye_keeps id (call_of w id) refl

-- ---- the calls of a table

same_slots : (pairs : List Pair) (calls : List CallValue) (cs : List Call) → EachPair (CallStandsFor pairs) calls cs → slots_of (shapes_of calls) ≡ slots cs
same_slots pairs = by_pairs (CallStandsFor pairs) (λ calls cs. slots_of (shapes_of calls) ≡ slots cs) refl (λ call c calls cs h rest. (let slot = h.slot_is in (λ i. sym slot i ∷ rest i)))

-- a table's calls after a signal that left as many are where they were
pub indexed_as_before : ((events : List Event) → EachWorldIsOrderly events) → (places : List (Option ℕ)) (old new : TableValue) (w : World) → TableStandsFor old w → (g : Signal) → Holds new (answer_to w g).world
    → length new.calls ≡ length old.calls → AreIndexed places (shapes_of old.calls) → AreIndexed places (shapes_of new.calls)
indexed_as_before law places old new w stands g after count indexed =
    let as_many : length (answer_to w g).world.calls ≡ length w.calls = sym (stands_length _ new.calls _ after.calls) ∙ count ∙ stands_length _ old.calls _ stands.holds.calls in
    indexed_still places (shapes_of old.calls) (shapes_of new.calls)
    (same_slots _ new.calls _ after.calls ∙ signal_keeps w (order_of law old w stands) g as_many ∙ sym (same_slots _ old.calls _ stands.holds.calls)) indexed
