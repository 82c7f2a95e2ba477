-- The lowest free slot, and a call that is put into it.
use Rattle.std.proofs.Common.{◌≡◌, ℕ, zero, suc, ◌+◌, ◌≤◌, Bool, true, false, cond, List, [], ◌∷◌, length, refl, sym, ap, ◌∙◌, subst, arith, eqb, ltb}
use Rattle.std.proofs.lemmas.Bool.{eqb-true, lt-ltb, le-ltb, false≢true, eq-eqb}
use Rattle.std.specs.List.{AllByRecursion, insert}
use Rattle.sg_call.specs.Standing.{CallStandsFor}
use Rattle.sg_call.specs.Values.{CallValue}
use Rattle.sg_gateway.proofs.Pairs.{Pairs}
use Rattle.sg_gateway.specs.Order.{IsBefore}
use Rattle.sg_gateway.specs.World.{Call, free_slot, and_call}
use Rattle.sg_leg.specs.Pairs.{EachPair}
use Rattle.sg_psk.specs.declared.pairs.Pair.{Pair}
use Rattle.sg_session.proofs.Lists.{each_weaker, each_of, both}
use Rattle.sg_table.proofs.Pairing.{by_pairs}
use Rattle.sg_table.specs.Free.{free_shape}
use Rattle.sg_table.specs.Values.{Shape, shapes_of, IsQuiet, AreQuiet}

pub free_low : (n : ℕ) (ss : List Shape) → free_shape n ss ≤ n + length ss
free_low n [] = omega arith
free_low n (s ∷ ss) = let le = free_low (n + 1) ss in both (λ m. m ≤ n + suc (length ss)) (eqb s.slot n) (free_shape (n + 1) ss) n (omega (arith, le)) (omega arith)

at_least : (n : ℕ) (cs : List Call) → n ≤ free_slot n cs
at_least n [] = omega arith
at_least n (c ∷ cs) = let le = at_least (n + 1) cs in both (λ m. n ≤ m) (eqb c.slot n) (free_slot (n + 1) cs) n (omega (arith, le)) (omega arith)

later_slots : (c : Call) (cs : List Call) → AllByRecursion (IsBefore c) cs → AllByRecursion (λ (d : Call). c.slot + 1 ≤ d.slot) cs
later_slots c cs p = each_weaker _ _ (λ d before. let lt = before.slot in omega (arith, lt)) cs p

and_is : (n k : ℕ) (d : Call) (cs : List Call) → AllByRecursion (λ (c : Call). n ≤ c.slot) cs → Pairs IsBefore cs → d.slot ≡ free_slot n cs → d.slot ≡ n + k → and_call d cs ≡ insert cs k d
and_is n zero d [] low o is k_is = refl
and_is n (suc k) d [] low o is k_is = absurd (omega (arith, is, k_is))
and_is n k d (c ∷ cs) low o is k_is = go (eqb c.slot n) refl k k_is is (λ k at is k_is. and_is (n + 1) k d cs (each_weaker _ _ (λ e le. (let s : c.slot ≡ n = at in omega (arith, le, s))) cs (later_slots c cs o.0)) o.1 is k_is)
  where
    go : (b : Bool) → eqb c.slot n ≡ b → (k : ℕ) → d.slot ≡ n + k → d.slot ≡ cond b (free_slot (n + 1) cs) n
        → ((k : ℕ) → c.slot ≡ n → d.slot ≡ free_slot (n + 1) cs → d.slot ≡ n + 1 + k → and_call d cs ≡ insert cs k d)
        → cond (ltb d.slot c.slot) (d ∷ (c ∷ cs)) (c ∷ and_call d cs) ≡ insert (c ∷ cs) k d
    go true at zero k_is is next = let le = at_least (n + 1) cs in absurd (omega (arith, le, is, k_is))
    go true at (suc k) k_is is next =
        let same : c.slot ≡ n = eqb-true c.slot n at in
        ap (λ b. cond b (d ∷ (c ∷ cs)) (c ∷ and_call d cs)) (le-ltb d.slot c.slot (omega (arith, same, k_is)))
        ∙ ap (λ l. c ∷ l) (next k same is (omega (arith, k_is)))
    go false other zero k_is is next =
        let differ : c.slot ≡ n → ⊥ = (λ e. false≢true (sym other ∙ eq-eqb c.slot n e)) in let le : n ≤ c.slot = low.0 in
        ap (λ b. cond b (d ∷ (c ∷ cs)) (c ∷ and_call d cs)) (lt-ltb d.slot c.slot (omega (arith, differ, le, is)))
    go false other (suc k) k_is is next = absurd (omega (arith, is, k_is))

pairs_insert : {X Y : Type 0} (R : X → Y → Type 0) (k : ℕ) (x : X) (y : Y) (xs : List X) (ys : List Y) → EachPair R xs ys → R x y → EachPair R (insert xs k x) (insert ys k y)
pairs_insert R zero x y xs ys h r = (r, h)
pairs_insert R (suc k) x y [] [] h r = (r, tt)
pairs_insert R (suc k) x y (u ∷ xs) (v ∷ ys) h r = (h.0, pairs_insert R k x y xs ys h.1 r)
pairs_insert R (suc k) x y xs ys h r = absurd h

pub quiet_insert : (k : ℕ) (call : CallValue) (calls : List CallValue) → IsQuiet call → AreQuiet calls → AreQuiet (insert calls k call)
quiet_insert zero call calls is q = (is, q)
quiet_insert (suc k) call [] is q = (is, tt)
quiet_insert (suc k) call (c ∷ cs) is q = (q.0, quiet_insert k call cs is q.1)

module _ (pairs : List Pair) where
  pub free_same : (n : ℕ) (calls : List CallValue) (cs : List Call) → EachPair (CallStandsFor pairs) calls cs → free_shape n (shapes_of calls) ≡ free_slot n cs
  free_same n calls cs h = by_pairs (CallStandsFor pairs) (λ calls cs. (n : ℕ) → free_shape n (shapes_of calls) ≡ free_slot n cs) (λ n. refl)
      (λ call c calls cs h rest n. (let slot = h.slot_is in (λ i. cond (eqb (sym slot i) n) (rest (n + 1) i) n))) calls cs h n

  pub put_stands : (call : CallValue) (calls : List CallValue) (cs : List Call) (d : Call) (slot : ℕ) → EachPair (CallStandsFor pairs) calls cs → Pairs IsBefore cs → CallStandsFor pairs call d
      → d.slot ≡ free_slot 0 cs → slot ≡ free_shape 0 (shapes_of calls) → EachPair (CallStandsFor pairs) (insert calls slot call) (and_call d cs)
  put_stands call calls cs d slot h o s of_d is =
      let at : d.slot ≡ slot = of_d ∙ sym (is ∙ free_same 0 calls cs h) in
      subst (EachPair (CallStandsFor pairs) (insert calls slot call))
      (sym (and_is 0 slot d cs (each_of (λ (c : Call). 0 ≤ c.slot) (λ c. omega arith) cs) o of_d (omega (arith, at))))
      (pairs_insert (CallStandsFor pairs) slot call d calls cs h s)
