-- Octets as the values of pairs of lower digits.
use Rattle.std.proofs.Common.{◌≡◌, ◌≢◌, ℕ, zero, suc, ◌+◌, ◌*◌, ◌/◌, ◌%◌, ◌<◌, Bool, true, false, List, [], ◌∷◌, length, take, Some, None, refl, sym, ap, ap₂, ◌∙◌, arith, inl, inr}
use Rattle.std.specs.Prelude.{◌&&◌, slice_index, set}
use Rattle.std.specs.List.{list_all}
use Rattle.std.proofs.lemmas.Grind.{same_number_lists}
use Rattle.std.proofs.lemmas.Bool.{cases_lt}
use Rattle.std.proofs.lemmas.Grind.{get_or-set_at}
use Rattle.std.proofs.lemmas.List.{get_or-set_other}
use Rattle.sg_base.specs.Fields.{lower_digit, octets_at}
use Rattle.sg_base.proofs.Pairs.{is_lower, octets_at_odd, octets_at_other}

-- the value of a lower digit
abbrev pub value : ℕ → ℕ
value d = d % 16 + 9 * (d / 64)

pub value_is : (d : ℕ) → is_lower d ≡ true → lower_digit d ≡ Some (value d)
value_is d e = grind (arith)

pub value_of : (d v : ℕ) → lower_digit d ≡ Some v → v ≡ value d
value_of d v e = grind (arith)

both : (a b : Bool) → (a && b) ≡ true → (a ≡ true) × (b ≡ true)
both true b e = (refl, e)
both false b e = absurd cc

-- each of lower digits
pub lower_at : (t : List ℕ) (k : ℕ) → list_all is_lower t ≡ true → k < length t → is_lower (slice_index t k) ≡ true
lower_at [] k all h = absurd (omega arith)
lower_at (d ∷ t) zero all h = (both (is_lower d) (list_all is_lower t) all).0
lower_at (d ∷ t) (suc k) all h = lower_at t k (both (is_lower d) (list_all is_lower t) all).1 (omega arith)

-- the octet of the two digits of values h and l
abbrev pub octet_of : List ℕ → ℕ → ℕ
octet_of t k = value (slice_index t (2 * k)) * 16 + value (slice_index t (2 * k + 1))

octets_of : List ℕ → List ℕ
octets_of [] = []
octets_of (a ∷ []) = []
octets_of (a ∷ b ∷ t) = (value a * 16 + value b) ∷ octets_of t

octets_at_is : (t : List ℕ) → list_all is_lower t ≡ true → length t % 2 ≡ 0 → octets_at t ≡ Some (octets_of t)
unfolding octets_at octets_of
octets_at_is [] all even = refl
octets_at_is (a ∷ []) all even = absurd (omega arith)
octets_at_is (a ∷ b ∷ t) all even =
    let p = both (is_lower a) (is_lower b && list_all is_lower t) all in
    let q = both (is_lower b) (list_all is_lower t) p.1 in
    rw (value_is a p.0, value_is b q.0, octets_at_is t q.1 (omega arith)) refl

octets_at_place : (t : List ℕ) (k : ℕ) → 2 * k + 1 < length t → slice_index (octets_of t) k ≡ octet_of t k
unfolding octets_of
octets_at_place [] k h = absurd (omega arith)
octets_at_place (a ∷ []) k h = absurd (omega arith)
octets_at_place (a ∷ b ∷ t) zero h = refl
octets_at_place (a ∷ b ∷ t) (suc k) h =
    let high : suc (suc (2 * k)) ≡ 2 * suc k = omega arith in
    let low : suc (suc (2 * k + 1)) ≡ 2 * suc k + 1 = omega arith in
    octets_at_place t k (omega arith) ∙ ap₂ (λ (i j : ℕ). value (slice_index (a ∷ b ∷ t) i) * 16 + value (slice_index (a ∷ b ∷ t) j)) high low

count_of : (t : List ℕ) → length (octets_of t) ≡ length t / 2
unfolding octets_of
count_of [] = refl
count_of (a ∷ []) = refl
count_of (a ∷ b ∷ t) = let rest = count_of t in omega (arith, rest)

-- octets that are at each place those of the digits there
pub octets_are : (t octets : List ℕ) → list_all is_lower t ≡ true → length t ≡ 2 * length octets → ((k : ℕ) → k < length octets → slice_index octets k ≡ octet_of t k)
    → octets_at t ≡ Some octets
octets_are t octets all long each =
    let count : length (octets_of t) ≡ length octets = omega (arith, count_of t) in
    octets_at_is t all (omega arith)
    ∙ ap Some (same_number_lists (octets_of t) octets count (λ k lt. octets_at_place t k (omega (arith, count)) ∙ sym (each k (omega (arith, count)))))

-- the octet of the next two digits written behind those of the digits before
pub one_more : (t octets : List ℕ) (i h l : ℕ) → i < length octets → ((k : ℕ) → k < i → slice_index octets k ≡ octet_of t k)
    → lower_digit (slice_index t (2 * i)) ≡ Some h → lower_digit (slice_index t (2 * i + 1)) ≡ Some l
    → (k : ℕ) → k < i + 1 → slice_index (set octets i (h * 16 + l)) k ≡ octet_of t k
one_more t octets i h l long before eh el k below = elim (cases_lt k i) [
  | inl lt ↦ get_or-set_other octets i k (h * 16 + l) 0 (λ same. absurd (omega arith)) ∙ before k lt
  | inr ge ↦
      let same : k ≡ i = omega arith in
      get_or-set_at octets i k (h * 16 + l) 0 same long ∙ ap₂ (λ (a b : ℕ). a * 16 + b) (value_of _ h eh) (value_of _ l el)
      ∙ ap (λ (n : ℕ). octet_of t n) (sym same)
]

pub none_of_odd : (t : List ℕ) → length t % 2 ≢ 0 → None ≡ octets_at t
none_of_odd t odd = sym (octets_at_odd t (omega arith))

pub none_of_others : (t : List ℕ) → list_all is_lower t ≡ false → None ≡ octets_at t
none_of_others t bad = sym (octets_at_other t bad)
