-- A pre-shared pair is added, or refused.
use Rattle.std.proofs.Common.{◌≡◌, ℕ, ◌<◌, ◌≤◌, Bool, true, false, cond, List, [], ◌∷◌, ◌++◌, length, None, Result, Ok, Err, IfErr, IsTrue, refl, sym, ap, ◌∙◌, subst, ltb}
use Rattle.std.proofs.lemmas.Bool.{ltb-true, ltb-false}
use Rattle.sg_base.specs.declared.faults.Fault.{Fault}
use Rattle.sg_base.specs.declared.faults.Fault.TheVariants as faults
use Rattle.sg_base.specs.declared.faults.Refusal.{Refusal}
use Rattle.sg_base.specs.declared.faults.Refusal.TheVariants.{PskKnown, PskFull}
use Rattle.sg_call.proofs.MorePairs.{call_still}
use Rattle.sg_call.specs.Standing.{CallStandsFor}
use Rattle.sg_call.specs.Values.{CallValue}
use Rattle.sg_gateway.specs.Signals.{Answer, answer, refused, with_pair}
use Rattle.sg_gateway.specs.World.{World}
use Rattle.sg_leg.specs.declared.books.Books.{Books}
use Rattle.sg_outcome.specs.declared.outcomes.Outcome.{Outcome}
use Rattle.sg_outcome.specs.declared.outcomes.Outcome.TheVariants.{Refused}
use Rattle.sg_psk.specs.Pairs.{has_pair, pair_of}
use Rattle.sg_psk.specs.declared.pairs.Pair.{Pair}
use Rattle.sg_table.proofs.Pairing.{pairs_weaker}
use Rattle.sg_table.specs.Standing.{Holds}
use Rattle.sg_table.specs.Telling.{IsAnswered}
use Rattle.sg_table.specs.Values.{TableValue}

-- what the book of the pairs answers, by what is there
pub record Adds (pairs : List Pair) (own peer : List ℕ) (r : Result (Unit {0}) Fault) : Type 0 where
  pub known : IsTrue (has_pair pairs own peer) → r ≡ Err (faults.Refused PskKnown)
  pub full : has_pair pairs own peer ≡ false → 64 ≤ length pairs → r ≡ Err (faults.Refused PskFull)
  pub room : has_pair pairs own peer ≡ false → length pairs < 64 → IfErr r (λ e. e ≡ faults.NoMemory)

-- and what is early of it
pub data Cases (pairs : List Pair) (own peer : List ℕ) (r : Result (Unit {0}) Fault) : Type 0 where
  Known : has_pair pairs own peer ≡ true → r ≡ Err (faults.Refused PskKnown) → Cases pairs own peer r
  Full : has_pair pairs own peer ≡ false → ltb (length pairs) 64 ≡ false → r ≡ Err (faults.Refused PskFull) → Cases pairs own peer r
  Room : has_pair pairs own peer ≡ false → ltb (length pairs) 64 ≡ true → IfErr r (λ e. e ≡ faults.NoMemory) → Cases pairs own peer r

cases : (pairs : List Pair) (own peer : List ℕ) (r : Result (Unit {0}) Fault) → Adds pairs own peer r → Cases pairs own peer r
cases pairs own peer r a = go (has_pair pairs own peer) (ltb (length pairs) 64) refl refl
  where
    go : (b l : Bool) → has_pair pairs own peer ≡ b → ltb (length pairs) 64 ≡ l → Cases pairs own peer r
    go true l is less = Known is (a.known is)
    go false false is less = Full is less (a.full is (ltb-false _ _ less))
    go false true is less = Room is less (a.room is (ltb-true _ _ less))

not_both : (e f : Fault) → (let r : Result (Unit {0}) Fault = Err e in let s : Result (Unit {0}) Fault = Err f in r ≡ s) → e ≡ f
not_both e f is = cc

ok_err : (e : Fault) → (let r : Result (Unit {0}) Fault = Ok tt in let s : Result (Unit {0}) Fault = Err e in r ≡ s) → ⊥
ok_err e is = cc

refusal_is : (a b : Refusal) → faults.Refused a ≡ faults.Refused b → a ≡ b
refusal_is a b e = cc

no_refusal : (a : Refusal) → faults.Refused a ≡ faults.NoMemory → ⊥
no_refusal a e = cc

module _ (calls : List CallValue) (books : Books) (now : ℕ) (w : World) (holds : Holds (record { calls = calls; books = books; moment = now }) w) (own peer key : List ℕ) where
  abbrev pair : Pair
  pair = pair_of own peer key

  abbrev added : Answer
  added = answer [] (record w { books = record w.books { pairs = w.books.pairs ++ pair ∷ [] } })

  module _ (b l : Bool) (is : has_pair books.psks own peer ≡ b) (less : ltb (length books.psks) 64 ≡ l) where
    by : with_pair w pair ≡ cond b (refused w None PskKnown) (cond l added (refused w None PskFull))
    by = let same = holds.books.pairs in
        (λ i. cond ((ap (λ ps. has_pair ps own peer) (sym same) ∙ is) i) (refused w None PskKnown) (cond ((ap (λ (ps : List Pair). ltb (length ps) 64) (sym same) ∙ less) i) added (refused w None PskFull)))

  -- it is added: the calls stand under more pairs too
  pub pair_added : (new : List Pair) (outs : List Outcome) → Adds books.psks own peer (Ok tt) → new ≡ books.psks ++ pair ∷ [] → outs ≡ []
      → IsAnswered outs (record { calls = calls; books = record books { psks = new }; moment = now }) (with_pair w pair)
  pair_added new outs adds is tells = go (cases books.psks own peer (Ok tt) adds)
    where
      table : TableValue
      table = record { calls = calls; books = record books { psks = new }; moment = now }

      go : Cases books.psks own peer (Ok tt) → IsAnswered outs table (with_pair w pair)
      go (Known has e) = absurd (ok_err _ e)
      go (Full has less e) = absurd (ok_err _ e)
      go (Room has less e) = subst (IsAnswered outs table) (sym (by false true has less)) (record {
        tells = tells;
        holds = record {
          calls = pairs_weaker (CallStandsFor w.books.pairs) (CallStandsFor (w.books.pairs ++ pair ∷ [])) (λ call c s. call_still (pair ∷ []) w.books.pairs call c s) calls w.calls holds.calls;
          books = record { pairs = is ∙ ap (λ ps. ps ++ pair ∷ []) holds.books.pairs; noted = holds.books.noted; ring = holds.books.ring };
          moment_is = holds.moment_is;
          quiet = holds.quiet;
        };
      })

  -- it is refused
  pub pair_refused : (cause : Refusal) (outs : List Outcome) → Adds books.psks own peer (Err (faults.Refused cause)) → outs ≡ Refused None cause ∷ []
      → IsAnswered outs (record { calls = calls; books = books; moment = now }) (with_pair w pair)
  pair_refused cause outs adds tells = go (cases books.psks own peer (Err (faults.Refused cause)) adds)
    where
      table : TableValue
      table = record { calls = calls; books = books; moment = now }

      told : (other : Refusal) → cause ≡ other → IsAnswered outs table (refused w None other)
      told other same = record { tells = tells ∙ ap (λ c. Refused None c ∷ []) same; holds = holds }

      go : Cases books.psks own peer (Err (faults.Refused cause)) → IsAnswered outs table (with_pair w pair)
      go (Known has e) = subst (IsAnswered outs table) (sym (by true (ltb (length books.psks) 64) has refl)) (told PskKnown (refusal_is cause PskKnown (not_both _ _ e)))
      go (Full has less e) = subst (IsAnswered outs table) (sym (by false false has less)) (told PskFull (refusal_is cause PskFull (not_both _ _ e)))
      go (Room has less e) = absurd (no_refusal cause e)
