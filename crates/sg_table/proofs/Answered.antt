-- What a table holds after a signal, by what it settles.
use Rattle.std.proofs.Common.{◌≡◌, ◌<◌, arith, get_or, ℕ, zero, suc, List, [], ◌∷◌, ◌++◌, length, Option, Some, Result, Err, sym, ap, ◌∙◌, subst}
use Rattle.std.proofs.Math.ListN.{set}
use Rattle.std.proofs.lemmas.List.{set-get_or}
use Rattle.std.proofs.lemmas.List.Elements.{All-from_recursion}
use Rattle.std.specs.List.{insert}
use Rattle.sg_base.specs.declared.addresses.CallId.{CallId}
use Rattle.sg_base.specs.declared.faults.Refusal.{Refusal}
use Rattle.sg_call.proofs.Paired.{stands_set}
use Rattle.sg_call.specs.Settling.{Settles}
use Rattle.sg_call.specs.Standing.{CallStandsFor}
use Rattle.sg_call.specs.Values.{CallValue}
use Rattle.sg_gateway.proofs.Pairs.{Pairs, pairs_from}
use Rattle.sg_gateway.proofs.Places.{with_at}
use Rattle.sg_gateway.specs.Generations.{Settled}
use Rattle.sg_gateway.specs.Order.{IsBefore, EachWorldIsOrderly}
use Rattle.sg_gateway.specs.Places.{DifferInSerial}
use Rattle.sg_gateway.specs.Signals.{in_new, in_old, refused}
use Rattle.sg_gateway.specs.Step.{Event}
use Rattle.sg_gateway.specs.World.{Call, World, free_slot, with_call, and_call}
use Rattle.sg_leg.specs.Pairs.{EachPair}
use Rattle.sg_leg.specs.declared.books.Books.{Books}
use Rattle.sg_outcome.specs.declared.outcomes.Outcome.{Outcome}
use Rattle.sg_outcome.specs.declared.outcomes.Outcome.TheVariants.{Made, Refused}
use Rattle.sg_session.proofs.Lists.{each_weaker}
use Rattle.sg_table.proofs.Found.{CallAt}
use Rattle.sg_table.proofs.FreeSlot.{put_stands, quiet_insert}
use Rattle.sg_table.specs.Free.{free_shape}
use Rattle.sg_table.specs.Standing.{Holds, TableStandsFor}
use Rattle.sg_table.specs.Telling.{IsAnswered}
use Rattle.sg_table.specs.Values.{TableValue, shapes_of, IsQuiet, AreQuiet}

-- what is told first, and next
pub told_one : (none more : List Outcome) (o : Outcome) → none ≡ [] → more ≡ none ++ o ∷ [] → more ≡ o ∷ []
told_one none more o is e = e ∙ ap (λ l. l ++ o ∷ []) is

pub told_two : (none one more : List Outcome) (o p : Outcome) → none ≡ [] → one ≡ none ++ o ∷ [] → more ≡ one ++ p ∷ [] → more ≡ o ∷ p ∷ []
told_two none one more o p is e f = f ∙ ap (λ l. l ++ p ∷ []) (told_one none one o is e)

-- the calls of a world of a run stand in order
pub order_of : ((events : List Event) → EachWorldIsOrderly events) → (table : TableValue) (w : World) → TableStandsFor table w → Pairs IsBefore w.calls
order_of law table w s = subst (λ (v : World). Pairs IsBefore v.calls) (sym s.is_after) (pairs_from IsBefore _ (law s.history).1.rising)

pub serials : (cs : List Call) → Pairs IsBefore cs → Pairs DifferInSerial cs
serials [] p = tt
serials (c ∷ cs) p = (each_weaker (IsBefore c) (DifferInSerial c) (λ d before. before.serial) cs p.0, serials cs p.1)

pub quiet_set : (calls : List CallValue) (i : ℕ) (new : CallValue) → AreQuiet calls → IsQuiet new → AreQuiet (set calls i new)
quiet_set [] i new q n = tt
quiet_set (c ∷ cs) zero new q n = (n, q.1)
quiet_set (c ∷ cs) (suc i) new q n = (q.0, quiet_set cs i new q.1 n)

pub quiet_at : (calls : List CallValue) (i : ℕ) (d : CallValue) → AreQuiet calls → i < length calls → IsQuiet (get_or calls i d)
quiet_at calls i d q lt = All-from_recursion IsQuiet calls q i d lt

-- a call that is as it was, and its books
pub back_at : (calls : List CallValue) (i : ℕ) (d new : CallValue) → new ≡ get_or calls i d → set calls i new ≡ calls
back_at calls i d new e = ap (set calls i) e ∙ set-get_or calls i d

-- a refusal leaves what was held
pub refused_holds : (table : TableValue) (w : World) → Holds table w → (id : Option CallId) (cause : Refusal) (outs : List Outcome) → outs ≡ Refused id cause ∷ [] → IsAnswered outs table (refused w id cause)
refused_holds table w holds id cause outs tells = record { tells = tells; holds = holds }

module _ (calls : List CallValue) (books : Books) (now : ℕ) (w : World) (holds : Holds (record { calls = calls; books = books; moment = now }) w) (order : Pairs IsBefore w.calls) where
  abbrev table : TableValue
  table = record { calls = calls; books = books; moment = now }

  module _ (id : CallId) (told : Settled → List Outcome) (r : Result Settled Refusal) where
    -- a refusal where something could be settled
    pub refused_new : (cause : Refusal) → r ≡ Err cause → (outs : List Outcome) → outs ≡ Refused (Some id) cause ∷ [] → IsAnswered outs table (in_new w id told r)
    refused_new cause is outs tells = subst (λ x. IsAnswered outs table (in_new w id told x)) (sym is) (record { tells = tells; holds = holds })

    pub refused_old : (cause : Refusal) → r ≡ Err cause → (outs : List Outcome) → outs ≡ Refused (Some id) cause ∷ [] → IsAnswered outs table (in_old w id told r)
    refused_old cause is outs tells = subst (λ x. IsAnswered outs table (in_old w id told x)) (sym is) (record { tells = tells; holds = holds })

    module _ (new : CallValue) (text : List ℕ) (books' : Books) (settles : Settles CallStandsFor new text books' r) (psks : books'.psks ≡ books.psks) (quiet : IsQuiet new) where
      pairs_same : settles.settled.books.pairs ≡ w.books.pairs
      pairs_same = sym settles.books_stand.pairs ∙ psks ∙ holds.books.pairs

      new_stands : CallStandsFor w.books.pairs new settles.settled.call
      new_stands = subst (λ ps. CallStandsFor ps new settles.settled.call) pairs_same settles.stands

      -- a call that was there
      pub settled_at : (i : ℕ) (at : CallAt w.books.pairs id calls w.calls i) → settles.settled.call.serial ≡ at.call.serial → (outs : List Outcome) → outs ≡ told settles.settled
          → IsAnswered outs (record { calls = set calls i new; books = books'; moment = now }) (in_old w id told r)
      settled_at i at serial outs tells =
          subst (λ x. IsAnswered outs (record { calls = set calls i new; books = books'; moment = now }) (in_old w id told x)) (sym settles.is_settled) (record {
            tells = tells;
            holds = record {
              calls = subst (λ ps. EachPair (CallStandsFor ps) (set calls i new) (with_call settles.settled.call w.calls)) (sym pairs_same)
                  (subst (EachPair (CallStandsFor w.books.pairs) (set calls i new)) (sym (with_at w.calls i at.call settles.settled.call (serials w.calls order) at.within at.at serial))
                  (stands_set (CallStandsFor w.books.pairs) calls w.calls i new settles.settled.call holds.calls new_stands));
              books = settles.books_stand;
              moment_is = holds.moment_is;
              quiet = quiet_set calls i new holds.quiet quiet;
            };
          })

      -- a call that is new
      pub settled_new : (slot : ℕ) → slot ≡ free_shape 0 (shapes_of calls) → settles.settled.call.slot ≡ free_slot 0 w.calls → (outs : List Outcome)
          → outs ≡ Made id new.slot new.media ∷ told settles.settled → IsAnswered outs (record { calls = insert calls slot new; books = books'; moment = now }) (in_new w id told r)
      settled_new slot at is_free outs tells =
          subst (λ x. IsAnswered outs (record { calls = insert calls slot new; books = books'; moment = now }) (in_new w id told x)) (sym settles.is_settled) (record {
            tells = tells ∙ (λ i. Made id (sym new_stands.slot_is i) (sym new_stands.media_are i) ∷ told settles.settled);
            holds = record {
              calls = subst (λ ps. EachPair (CallStandsFor ps) (insert calls slot new) (and_call settles.settled.call w.calls)) (sym pairs_same)
                  (put_stands w.books.pairs new calls w.calls settles.settled.call slot holds.calls order new_stands is_free at);
              books = settles.books_stand;
              moment_is = holds.moment_is;
              quiet = quiet_insert slot new calls quiet holds.quiet;
            };
          })
