-- What a search for an octet found, and the fields that it cuts.
use Rattle.std.proofs.Common.{◌≡◌, ℕ, zero, suc, ◌+◌, ◌<◌, true, eqb, List, [], ◌∷◌, ◌++◌, length, take, drop, Some, None, refl, sym, ap, ◌∙◌, inl, inr, arith, append_assoc, ◌-◌, ◌≤◌, map}
use Rattle.std.specs.Prelude.{slice_index}
use Rattle.std.proofs.lemmas.Bool.{cases_Bool, eqb-true}
use Rattle.std.proofs.Math.Seq.{take-length}
use Rattle.std.proofs.lemmas.List.{length-drop, length-map, length-take, map-append, take_all, take_at}
use Rattle.std.proofs.lemmas.List.Splits.{slice_split_at, slice_split_none}
use Rattle.memchr.specs.Find.{IsFirstByte, is_byte}
use Rattle.sg_base.specs.Fields.{Lacks}
use Rattle.sg_base.proofs.Cuts.{lacks_all}
use Rattle.sg_lines.specs.LineOf.{fields_of, said_by}

lost_from : (c : ℕ) (xs : List ℕ) → ((k : ℕ) → k < length xs → ¬ (eqb (slice_index xs k) c ≡ true)) → Lacks c xs
lost_from c [] none = tt
lost_from c (x ∷ xs) none =
    elim (cases_Bool (eqb x c)) [
      | inl h ↦ absurd (none 0 (omega arith) h)
      | inr h ↦ (h, lost_from c xs (λ k lt. none (suc k) (omega arith)))
    ]

found_from : (c : ℕ) (xs : List ℕ) (k : ℕ) → k < length xs → eqb (slice_index xs k) c ≡ true → ((j : ℕ) → j < k → ¬ (eqb (slice_index xs j) c ≡ true))
    → (xs ≡ take k xs ++ c ∷ drop (k + 1) xs) × Lacks c (take k xs)
found_from c [] k lt hit before = absurd (omega arith)
found_from c (x ∷ xs) zero lt hit before = (ap (λ (y : ℕ). y ∷ xs) (eqb-true x c hit), tt)
found_from c (x ∷ xs) (suc k) lt hit before =
    elim (cases_Bool (eqb x c)) [
      | inl h ↦ absurd (before 0 (omega arith) h)
      | inr h ↦
          let rest = found_from c xs k (omega arith) hit (λ j lt. before (suc j) (omega arith)) in
          let next : suc k + 1 ≡ suc (k + 1) = omega arith in
          (ap (λ (l : List ℕ). x ∷ l) rest.0 ∙ ap (λ (n : ℕ). x ∷ take k xs ++ c ∷ drop n (x ∷ xs)) (sym next), (h, rest.1))
    ]

-- the octet isn't there
pub lost_by : (c : ℕ) (xs : List ℕ) → IsFirstByte (is_byte c) xs None → Lacks c xs
lost_by c xs none = lost_from c xs (λ k lt. none k (omega arith) lt)

-- the octet is there, and not before
pub found_by : (c : ℕ) (xs : List ℕ) (k : ℕ) → IsFirstByte (is_byte c) xs (Some k) → (k < length xs) × (xs ≡ take k xs ++ c ∷ drop (k + 1) xs) × Lacks c (take k xs)
found_by c xs k first =
    let parts = found_from c xs k first.0.high first.1 (λ j lt. first.0.before j (omega arith) lt) in (first.0.high, parts.0, parts.1)

-- the field before the first space, and those behind it
first_field : (xs : List ℕ) (k : ℕ) → IsFirstByte (is_byte 32) xs (Some k) → fields_of xs ≡ take k xs ∷ fields_of (drop (k + 1) xs)
first_field xs k first =
    let found = found_by 32 xs k first in
    ap fields_of found.1 ∙ slice_split_at (λ b. eqb b 32) (take k xs) 32 (drop (k + 1) xs) (lacks_all 32 (take k xs) found.2) refl

-- one more field is taken from what is left
pub next_field : {A : Type 0} (fields next : List A) (x : A) (octets : A → List ℕ) (whole rest : List ℕ) (k : ℕ) → next ≡ fields ++ x ∷ [] → octets x ≡ take k rest
    → map octets fields ++ fields_of rest ≡ fields_of whole → IsFirstByte (is_byte 32) rest (Some k)
    → map octets next ++ fields_of (take (length rest - (k + 1)) (drop (k + 1) rest)) ≡ fields_of whole
next_field fields next x octets whole rest k is field e first =
    let behind : take (length rest - (k + 1)) (drop (k + 1) rest) ≡ drop (k + 1) rest = rw (← length-drop (k + 1) rest, take-length (drop (k + 1) rest)) refl in
    let taken : map octets next ≡ map octets fields ++ take k rest ∷ [] = ap (map octets) is ∙ map-append octets fields (x ∷ []) ∙ ap (λ (l : List ℕ). map octets fields ++ l ∷ []) field in
    (λ i. taken i ++ fields_of (behind i)) ∙ append_assoc (map octets fields) (take k rest ∷ []) (fields_of (drop (k + 1) rest))
    ∙ ap (λ (ls : List (List ℕ)). map octets fields ++ ls) (sym (first_field rest k first)) ∙ e

pub next_shorter : (rest : List ℕ) (k most : ℕ) → length rest ≤ most → length (take (length rest - (k + 1)) (drop (k + 1) rest)) ≤ most
next_shorter rest k most h = omega (arith, length-take (length rest - (k + 1)) (drop (k + 1) rest), length-drop (k + 1) rest, h)

-- what is left without a space is the last field
pub last_field : {A : Type 0} (fields next : List A) (x : A) (octets : A → List ℕ) (whole rest : List ℕ) → next ≡ fields ++ x ∷ [] → octets x ≡ rest
    → map octets fields ++ fields_of rest ≡ fields_of whole → IsFirstByte (is_byte 32) rest None → map octets next ≡ fields_of whole
last_field fields next x octets whole rest is field e none =
    ap (map octets) is ∙ map-append octets fields (x ∷ []) ∙ ap (λ (l : List ℕ). map octets fields ++ l ∷ []) field
    ∙ ap (λ (ls : List (List ℕ)). map octets fields ++ ls) (sym (slice_split_none (λ b. eqb b 32) rest (lacks_all 32 rest (lost_by 32 rest none)))) ∙ e

-- where nine are taken, they are the first nine
pub nine_fields : {A : Type 0} (fields : List A) (octets : A → List ℕ) (rest whole : List (List ℕ)) → length fields ≡ 9 → map octets fields ++ rest ≡ whole → map octets fields ≡ take 9 whole
nine_fields fields octets rest whole nine e =
    let count : length (map octets fields) ≡ 9 = length-map fields octets ∙ nine in
    sym (ap (take 9) (sym e) ∙ take_at (map octets fields) rest 9 count)

-- where all are taken, and they aren't more than nine
pub all_fields : {A : Type 0} (fields : List A) (octets : A → List ℕ) (whole : List (List ℕ)) → length fields ≤ 9 → map octets fields ≡ whole → map octets fields ≡ take 9 whole
all_fields fields octets whole most e =
    let few : length whole ≤ 9 = omega (arith, most, length-map fields octets, ap (λ (l : List (List ℕ)). length l) e) in
    e ∙ sym (take_all 9 whole few)

-- behind eight fields nothing is told apart
pub first_nine : (version : ℕ) (fs : List (List ℕ)) → said_by version (take 9 fs) ≡ said_by version fs
first_nine version (a ∷ b ∷ c ∷ d ∷ e ∷ f ∷ g ∷ h ∷ i ∷ rest) = refl
first_nine version fs = refl
