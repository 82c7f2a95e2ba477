-- A call ends, or goes on under the generation before its open offer.
use Rattle.std.proofs.Common.{◌≡◌, ℕ, zero, suc, ◌<◌, Bool, true, false, cond, List, [], ◌∷◌, length, get_or, Option, Some, None, Result, Ok, Err, refl, sym, ap, ◌∙◌, subst, eqb}
use Rattle.std.proofs.Math.ListN.{set}
use Rattle.std.proofs.lemmas.Bool.{eqb-true}
use Rattle.std.proofs.lemmas.List.{set-get_or}
use Rattle.std.specs.List.{remove, position}
use Rattle.std.specs.Result.{OnErr}
use Rattle.std.specs.Option.{is_some}
use Rattle.sg_base.specs.declared.addresses.CallId.{CallId}
use Rattle.sg_base.specs.declared.faults.Refusal.{Refusal}
use Rattle.sg_base.specs.declared.faults.Refusal.TheVariants.{CallUnknown, State}
use Rattle.sg_call.proofs.Paired.{stands_set, stands_length}
use Rattle.sg_call.specs.Settling.{IsRejected}
use Rattle.sg_call.specs.Standing.{CallStandsFor}
use Rattle.sg_call.specs.Values.{CallValue}
use Rattle.sg_gateway.proofs.InTurn.{found_passes}
use Rattle.sg_gateway.proofs.Pairs.{Pairs}
use Rattle.sg_gateway.proofs.Places.{with_at, without_at}
use Rattle.sg_gateway.specs.CallSignals.{rejected_in}
use Rattle.sg_gateway.specs.Order.{IsBefore}
use Rattle.sg_gateway.specs.Signals.{ending, rejected_to, rejected, left}
use Rattle.sg_gateway.specs.World.{Call, World, call_of, same_id}
use Rattle.sg_leg.specs.Pairs.{EachPair}
use Rattle.sg_leg.specs.declared.books.Books.{Books}
use Rattle.sg_outcome.specs.declared.outcomes.Outcome.{Outcome}
use Rattle.sg_outcome.specs.declared.outcomes.Outcome.TheVariants.{Ended, Refused}
use Rattle.sg_outcome.specs.declared.outcomes.Why.{Why}
use Rattle.sg_outcome.specs.declared.outcomes.Why.TheVariants as why
use Rattle.sg_psk.specs.declared.pairs.Pair.{Pair}
use Rattle.sg_table.proofs.Answered.{quiet_set, quiet_at, serials}
use Rattle.sg_table.proofs.Early.{no_call, some_call}
use Rattle.sg_table.proofs.Found.{CallAt}
use Rattle.sg_table.specs.Ends.{ended_as, IsRejectedAt}
use Rattle.sg_table.specs.Found.{has_id}
use Rattle.sg_table.specs.Standing.{Holds}
use Rattle.sg_table.specs.Telling.{IsAnswered}
use Rattle.sg_table.specs.Values.{TableValue, IsQuiet, AreQuiet}

pairs_remove : {X Y : Type 0} (R : X → Y → Type 0) (i : ℕ) (xs : List X) (ys : List Y) → EachPair R xs ys → EachPair R (remove xs i) (remove ys i)
pairs_remove R zero [] [] h = tt
pairs_remove R (suc i) [] [] h = tt
pairs_remove R zero (x ∷ xs) (y ∷ ys) h = h.1
pairs_remove R (suc i) (x ∷ xs) (y ∷ ys) h = (h.0, pairs_remove R i xs ys h.1)
pairs_remove R i xs ys h = absurd h

quiet_remove : (calls : List CallValue) (i : ℕ) → AreQuiet calls → AreQuiet (remove calls i)
quiet_remove [] zero q = tt
quiet_remove [] (suc i) q = tt
quiet_remove (c ∷ cs) zero q = q.1
quiet_remove (c ∷ cs) (suc i) q = (q.0, quiet_remove cs i q.1)

remove_set : (i : ℕ) (calls : List CallValue) (c : CallValue) → remove (set calls i c) i ≡ remove calls i
remove_set i [] c = refl
remove_set zero (x ∷ xs) c = refl
remove_set (suc i) (x ∷ xs) c = ap (λ l. x ∷ l) (remove_set i xs c)

-- a rejected call keeps its serial number
rejected_serial : (now : ℕ) (c d : Call) → rejected_in now c ≡ Ok (Some d) → d.serial ≡ c.serial
rejected_serial now c d e = go (is_some c.offer) (eqb c.generations 0) e
  where
    gone_on : Call
    gone_on = record c { offer = None; moment = now }

    go : (b g : Bool) → cond b (Ok (cond g None (Some gone_on))) (Err State) ≡ Ok (Some d) → d.serial ≡ c.serial
    go true true e = absurd cc
    go true false e = let same : gone_on ≡ d = cc in sym (ap (λ (c : Call). c.serial) same)
    go false g e = absurd cc

module _ (calls : List CallValue) (books : Books) (now : ℕ) (w : World) (holds : Holds (record { calls = calls; books = books; moment = now }) w) (order : Pairs IsBefore w.calls) (id : CallId) where
  abbrev table : TableValue
  table = record { calls = calls; books = books; moment = now }

  abbrev with_calls : List CallValue → TableValue
  with_calls calls' = record { calls = calls'; books = books; moment = now }

  module _ (outs : List Outcome) where
    -- no call has this id
    pub unknown_left : position (has_id id) calls ≡ None → outs ≡ Refused (Some id) CallUnknown ∷ [] → IsAnswered outs table (left w id (call_of w id))
    unknown_left none tells = subst (λ o. IsAnswered outs table (left w id o)) (sym (no_call table w holds id none)) (record { tells = tells; holds = holds })

    pub unknown_rejected : position (has_id id) calls ≡ None → outs ≡ Refused (Some id) CallUnknown ∷ [] → IsAnswered outs table (rejected w id (call_of w id))
    unknown_rejected none tells = subst (λ o. IsAnswered outs table (rejected w id o)) (sym (no_call table w holds id none)) (record { tells = tells; holds = holds })

    module _ (i : ℕ) (found : position (has_id id) calls ≡ Some i) where
      at : CallAt w.books.pairs id calls w.calls i
      at = some_call table w holds id i found

      ends : (d : CallValue) (y : Why) → outs ≡ ended_as y (get_or calls i d) ∷ [] → IsAnswered outs (with_calls (remove calls i)) (ending w at.call y)
      ends d y tells =
          let s = at.stands d in
          record {
            tells = tells ∙ (λ j. Ended (sym s.id_is j) (sym s.slot_is j) (sym s.media_are j) y ∷ []);
            holds = record {
              calls = subst (EachPair (CallStandsFor w.books.pairs) (remove calls i)) (sym (without_at w.calls i at.call (serials w.calls order) at.within at.at))
                  (pairs_remove (CallStandsFor w.books.pairs) i calls w.calls holds.calls);
              books = holds.books;
              moment_is = holds.moment_is;
              quiet = quiet_remove calls i holds.quiet;
            };
          }

      pub left_at : (d : CallValue) → outs ≡ ended_as why.Bye (get_or calls i d) ∷ [] → IsAnswered outs (with_calls (remove calls i)) (left w id (call_of w id))
      left_at d tells = subst (λ o. IsAnswered outs (with_calls (remove calls i)) (left w id o)) (sym at.is_call) (ends d why.Bye tells)

      rejected_by : (t : TableValue) (r : Result (Option Call) Refusal) → rejected_in now at.call ≡ r → IsAnswered outs t (rejected_to w at.call r) → IsAnswered outs t (rejected w id (call_of w id))
      rejected_by t r is answered = subst (λ o. IsAnswered outs t (rejected w id o)) (sym at.is_call)
          (subst (λ x. IsAnswered outs t (rejected_to w at.call x)) (sym (ap (λ n. rejected_in n at.call) holds.moment_is ∙ is)) answered)

      -- it ends
      pub rejected_ends : (d e : CallValue) → ((pairs : List Pair) (c : Call) → CallStandsFor pairs (get_or calls i d) c → IsRejected pairs (Ok false) e (rejected_in now c))
          → outs ≡ ended_as why.Rejected (get_or calls i d) ∷ [] → IsAnswered outs (with_calls (remove calls i)) (rejected w id (call_of w id))
      rejected_ends d e says tells = rejected_by (with_calls (remove calls i)) (Ok None) (says w.books.pairs at.call (at.stands d)) (ends d why.Rejected tells)

      -- it goes on
      pub rejected_goes_on : (d new : CallValue) → ((pairs : List Pair) (c : Call) → CallStandsFor pairs (get_or calls i d) c → IsRejected pairs (Ok true) new (rejected_in now c))
          → IsQuiet new → outs ≡ [] → IsAnswered outs (with_calls (set calls i new)) (rejected w id (call_of w id))
      rejected_goes_on d new says quiet tells =
          let (e, is, stands) = says w.books.pairs at.call (at.stands d) in
          rejected_by (with_calls (set calls i new)) (Ok (Some e)) is (record {
            tells = tells;
            holds = record {
              calls = subst (EachPair (CallStandsFor w.books.pairs) (set calls i new)) (sym (with_at w.calls i at.call e (serials w.calls order) at.within at.at (rejected_serial now at.call e is)))
                  (stands_set (CallStandsFor w.books.pairs) calls w.calls i new e holds.calls stands);
              books = holds.books;
              moment_is = holds.moment_is;
              quiet = quiet_set calls i new holds.quiet quiet;
            };
          })

      same_call : at.call.id ≡ id
      same_call = let e = eqb-true at.call.id.0 id.0 (found_passes (λ c. same_id c.id id) w.calls at.call at.is_call) in (λ j. record { 0 = e j })

      -- it has no open offer
      pub rejected_refused : (d e : CallValue) (cause : Refusal) → ((pairs : List Pair) (c : Call) → CallStandsFor pairs (get_or calls i d) c → IsRejected pairs (Err cause) e (rejected_in now c))
          → outs ≡ Refused (Some id) cause ∷ [] → IsAnswered outs table (rejected w id (call_of w id))
      rejected_refused d e cause says tells = rejected_by table (Err cause) (says w.books.pairs at.call (at.stands d))
          (record { tells = tells ∙ ap (λ n. Refused (Some n) cause ∷ []) (sym same_call); holds = holds })

      -- ---- by what was done at its position
      module _ (r : Result Bool Refusal) (calls' : List CallValue) (done : IsRejectedAt now i r calls calls') where
        within : i < length calls
        within = subst (λ n. i < n) (sym (stands_length (CallStandsFor w.books.pairs) calls w.calls holds.calls)) at.within

        says : (s : Result Bool Refusal) → r ≡ s → (pairs : List Pair) (c : Call) → CallStandsFor pairs (get_or calls i done.before) c → IsRejected pairs s done.after (rejected_in now c)
        says s e pairs c stands = subst (λ r. IsRejected pairs r done.after (rejected_in now c)) e (done.rejected pairs c (subst (λ x. CallStandsFor pairs x c) (done.was done.before) stands))

        quiet_after : IsQuiet done.after
        quiet_after =
            let q : IsQuiet done.before = subst IsQuiet (done.was done.before) (quiet_at calls i done.before holds.quiet within) in
            (done.inbox.0 ∙ q.0, done.inbox.1 ∙ q.1)

        pub went_on : r ≡ Ok true → outs ≡ [] → IsAnswered outs (with_calls calls') (rejected w id (call_of w id))
        went_on e tells = subst (λ cs. IsAnswered outs (with_calls cs) (rejected w id (call_of w id))) (sym done.is) (rejected_goes_on done.before done.after (says (Ok true) e) quiet_after tells)

        pub has_ended : r ≡ Ok false → (calls'' : List CallValue) → calls'' ≡ remove calls' i → outs ≡ Ended id done.before.slot done.before.media why.Rejected ∷ []
            → IsAnswered outs (with_calls calls'') (rejected w id (call_of w id))
        has_ended e calls'' is tells =
            let of_call = at.stands done.before in
            let was = done.was done.before in
            subst (λ cs. IsAnswered outs (with_calls cs) (rejected w id (call_of w id))) (sym (is ∙ ap (λ cs. remove cs i) done.is ∙ remove_set i calls done.after))
            (rejected_ends done.before done.after (says (Ok false) e)
            (tells ∙ (λ j. Ended ((sym same_call ∙ of_call.id_is) j) (sym was j).slot (sym was j).media why.Rejected ∷ [])))

        pub was_refused : (cause : Refusal) → r ≡ Err cause → outs ≡ Refused (Some id) cause ∷ [] → IsAnswered outs (with_calls calls') (rejected w id (call_of w id))
        was_refused cause e tells =
            let back : done.after ≡ done.before = subst (λ r. OnErr r (done.after ≡ done.before)) e done.back in
            let same : calls' ≡ calls = done.is ∙ ap (set calls i) (back ∙ sym (done.was done.before)) ∙ set-get_or calls i done.before in
            subst (λ cs. IsAnswered outs (with_calls cs) (rejected w id (call_of w id))) (sym same) (rejected_refused done.before done.after cause (says (Err cause) e) tells)
