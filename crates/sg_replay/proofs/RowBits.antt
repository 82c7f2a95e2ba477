-- Bits in a row of words of 64.
use Rattle.std.proofs.Common.{◌≡◌, ◌≢◌, ℕ, ◌-◌, ◌*◌, ◌/◌, ◌%◌, ◌^◌, ◌<◌, true, false, nat_eq, List, length, slice_index_or, slice_set, bit_and, bit_or, w64, arith, refl, ap, ◌∙◌, get_or-set_same, get_or-set_other, inl, inr, replicate}
use Rattle.std.specs.Int.{bit_at}
use Rattle.std.proofs.lemmas.Nat.Bits.{bit_at_set_same, bit_at_set_other, bit_at_clear_same, bit_at_clear_other, shr_and_one, bit_at-zero}
use Rattle.std.proofs.lemmas.List.{get_or-replicate, get_or_past, length-replicate}
use Rattle.std.proofs.lemmas.Bool.{cases_eq, cases_lt}
use Rattle.sg_replay.specs.Row.{bit_in}

-- a bit of the word that is written
written : (row : List ℕ) (p v k : ℕ) → p < length row → k / 64 ≡ p → bit_in (slice_set row p v) k ≡ nat_eq (bit_at v (k % 64)) 1
unfolding bit_in
written row p v k h e = rw (e, get_or-set_same)

-- a bit of another word
elsewhere : (row : List ℕ) (p v k : ℕ) → k / 64 ≢ p → bit_in (slice_set row p v) k ≡ bit_in row k
unfolding bit_in
elsewhere row p v k h = rw get_or-set_other

-- one word is written, and its other bits stay
others_stay : (row : List ℕ) (at v k : ℕ) → at / 64 < length row → k ≢ at
    → ((i : ℕ) → i < 64 → i ≢ at % 64 → bit_at v i ≡ bit_at (slice_index_or row (at / 64) 0) i)
    → bit_in (slice_set row (at / 64) v) k ≡ bit_in row k
unfolding bit_in
others_stay row at v k h ne same =
    elim (cases_eq (k / 64) (at / 64)) [
      | inl e ↦ written row (at / 64) v k h e
          ∙ (let apart : k % 64 ≢ at % 64 = omega arith in
          let below : k % 64 < 64 = omega arith in
          rw (same (k % 64) below apart, e) refl)
      | inr e ↦ elsewhere row (at / 64) v k e
    ]

pub set_here : (row : List ℕ) (at : ℕ) → length row ≡ 16 → at < 1024 → bit_in (slice_set row (at / 64) (bit_or (slice_index_or row (at / 64) 0) (1 * 2 ^ (at % 64) % 2 ^ 64))) at ≡ true
set_here row at e h =
    written row (at / 64) _ at (omega arith) refl
    ∙ ap (λ b. nat_eq b 1) (bit_at_set_same w64 (slice_index_or row (at / 64) 0) (at % 64) (omega arith))

pub set_others : (row : List ℕ) (at k : ℕ) → length row ≡ 16 → at < 1024 → k ≢ at → bit_in (slice_set row (at / 64) (bit_or (slice_index_or row (at / 64) 0) (1 * 2 ^ (at % 64) % 2 ^ 64))) k ≡ bit_in row k
set_others row at k e h ne =
    others_stay row at _ k (omega arith) ne
    (λ i _ apart. bit_at_set_other w64 (slice_index_or row (at / 64) 0) (at % 64) (omega arith) i apart)

pub clear_here : (row : List ℕ) (at : ℕ) → length row ≡ 16 → at < 1024 → bit_in (slice_set row (at / 64) (bit_and (slice_index_or row (at / 64) 0) (2 ^ 64 - 1 - 1 * 2 ^ (at % 64) % 2 ^ 64))) at ≡ false
clear_here row at e h =
    written row (at / 64) _ at (omega arith) refl
    ∙ ap (λ b. nat_eq b 1) (bit_at_clear_same w64 (slice_index_or row (at / 64) 0) (at % 64) (omega arith))

pub clear_others : (row : List ℕ) (at k : ℕ) → length row ≡ 16 → at < 1024 → k ≢ at → bit_in (slice_set row (at / 64) (bit_and (slice_index_or row (at / 64) 0) (2 ^ 64 - 1 - 1 * 2 ^ (at % 64) % 2 ^ 64))) k ≡ bit_in row k
clear_others row at k e h ne =
    others_stay row at _ k (omega arith) ne
    (λ i below apart. bit_at_clear_other w64 (slice_index_or row (at / 64) 0) (at % 64) (omega arith) i below apart)

-- the code's test of a bit
pub bit_test : (row : List ℕ) (at : ℕ) → nat_eq (bit_and (slice_index_or row (at / 64) 0 / 2 ^ (at % 64)) 1) 1 ≡ bit_in row at
unfolding bit_in
bit_test row at = ap (λ b. nat_eq b 1) (shr_and_one (slice_index_or row (at / 64) 0) (at % 64))

zero_words : (z n j : ℕ) → slice_index_or (replicate n z) j z ≡ z
zero_words z n j =
    elim (cases_lt j n) [
      | inl h ↦ get_or-replicate n j z z h
      | inr h ↦ get_or_past (replicate n z) j z (rw (length-replicate n z) h)
    ]

-- a row of zeros has no bit
pub none_set : (k : ℕ) → bit_in (replicate 16 0) k ≡ false
unfolding bit_in
none_set k = ap (λ w. nat_eq (bit_at w (k % 64)) 1) (zero_words 0 16 (k / 64)) ∙ ap (λ b. nat_eq b 1) (bit_at-zero (k % 64))
