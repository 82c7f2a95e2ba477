-- The key that is found.
use Rattle.std.proofs.Common.{◌≡◌, ℕ, zero, suc, ◌+◌, ◌<◌, ◌≤◌, Bool, true, false, List, [], ◌∷◌, length, drop, get_or, slice_get, Some, None, find, refl, arith, sym, subst, ◌∙◌, inl, inr, drop-cons, add-one}
use Rattle.std.specs.Prelude.{if◌then◌else◌}
use Rattle.std.proofs.lemmas.Bool.{cases_Bool, ltb-false}
use Rattle.std.proofs.lemmas.Option.{slice_get_read, slice_get_within, get_or_from_slice_get}
use Rattle.sg_keys.specs.Live.{Live, is_alive}
use Rattle.sg_keys.specs.KeySet.{IsAt, IsKeySet, IsSpent}

rest_at : (keys : List Live) (i : ℕ) (k : Live) → i < length keys → k ≡ get_or keys i k → drop i keys ≡ k ∷ drop (i + 1) keys
rest_at keys i k h e = drop-cons keys i k h ∙ rw (← e, ← add-one i) refl

pub found_here : (passes : Live → Bool) (keys : List Live) (i : ℕ) (k : Live) → i < length keys → k ≡ get_or keys i k → passes k ≡ true
    → find passes (drop i keys) ≡ find passes keys → IsAt (find passes keys) keys i
found_here passes keys i k h e passed same = record {
  key = k;
  here = slice_get_read keys (length keys) i k refl h e;
  is = sym same ∙ rw (rest_at keys i k h e, passed) refl;
}

none_alive : (keys : List Live) (i : ℕ) (k : Live) → find is_alive keys ≡ None → slice_get keys i ≡ Some k → is_alive k ≡ false
none_alive [] i k none e = absurd cc
none_alive (x ∷ xs) zero k none e = elim (cases_Bool (is_alive x)) [
  | inl y ↦ absurd (let some : Some x ≡ None = subst (λ (b : Bool). (if b then Some x else find is_alive xs) ≡ None) y none in cc)
  | inr spent ↦ subst (λ (a : Live). is_alive a ≡ false) (let same : x ≡ k = cc in same) spent
]
none_alive (x ∷ xs) (suc i) k none e = elim (cases_Bool (is_alive x)) [
  | inl y ↦ absurd (let some : Some x ≡ None = subst (λ (b : Bool). (if b then Some x else find is_alive xs) ≡ None) y none in cc)
  | inr spent ↦ none_alive xs i k (subst (λ (b : Bool). (if b then Some x else find is_alive xs) ≡ None) spent none) e
]

-- where no key of a set is alive, each has served as many packets as its life says
pub each_spent : (keys : List Live) (i : ℕ) (k : Live) → IsKeySet keys → find is_alive keys ≡ None → slice_get keys i ≡ Some k → IsSpent keys k.number k.count
each_spent keys i k set none e =
    let within : k.count ≤ k.life = subst (λ (a : Live). a.count ≤ a.life) (get_or_from_slice_get keys i k k e) (set.counts i k (slice_get_within keys i k e)) in
    record {
      key = k;
      position = i;
      here = e;
      number = refl;
      count = refl;
      life = omega (arith, ltb-false k.count k.life (none_alive keys i k none e), within);
    }
