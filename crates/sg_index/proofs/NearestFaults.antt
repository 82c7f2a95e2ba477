-- Where the nearest index is below 0, and where it is 2^48 or more.
use Rattle.std.proofs.Common.{◌≡◌, ℕ, ◌+◌, ◌-◌, ◌*◌, ◌/◌, ◌^◌, ◌<◌, ◌≤◌, Ok, Err, arith, inl, inr}
use Rattle.std.proofs.lemmas.Bool.{cases_lt, lt-ltb, le-ltb, lt-leb, le-leb}
use Rattle.sg_base.specs.declared.IndexFault.TheVariants.{BeforeFirst, IndexSpent}
use Rattle.sg_index.specs.Nearest.{apart, IsNearest, nearest_index, within_life}

spent_at : (n : ℕ) → within_life n ≡ Err IndexSpent → 2 ^ 48 ≤ n
spent_at n e =
    elim (cases_lt n (2 ^ 48)) [
      | inl below ↦ (let no : Ok n ≡ Err IndexSpent = rw (lt-ltb n (2 ^ 48) below) at e in cc)
      | inr above ↦ above
    ]

found_at : (h seq n : ℕ) → IsNearest h seq n → within_life n ≡ Err IndexSpent → (m : ℕ) × IsNearest h seq m × (2 ^ 48 ≤ m)
found_at h seq n near e = (n, near, spent_at n e)

-- of an index past the last, there is one that is nearest
pub spent_found : (h seq : ℕ) → seq < 2 ^ 16 → nearest_index h seq ≡ Err IndexSpent → (n : ℕ) × IsNearest h seq n × (2 ^ 48 ≤ n)
spent_found h seq p e =
    elim (cases_lt (2 ^ 15) (apart h (h / 2 ^ 16 * 2 ^ 16 + seq))) [
      | inr near ↦
          found_at h seq (h / 2 ^ 16 * 2 ^ 16 + seq) (record { number = omega arith; near = near; tie = λ t. omega arith })
          (rw (le-leb (apart h (h / 2 ^ 16 * 2 ^ 16 + seq)) (2 ^ 15) near) at e)
      | inl far ↦
          (elim (cases_lt (h / 2 ^ 16 * 2 ^ 16 + seq) h) [
            | inl behind ↦
                found_at h seq (h / 2 ^ 16 * 2 ^ 16 + seq + 2 ^ 16) (record { number = omega arith; near = omega arith; tie = λ t. omega arith })
                (rw (lt-leb (apart h (h / 2 ^ 16 * 2 ^ 16 + seq)) (2 ^ 15) far, lt-ltb (h / 2 ^ 16 * 2 ^ 16 + seq) h behind) at e)
            | inr ahead ↦
                (elim (cases_lt (h / 2 ^ 16 * 2 ^ 16 + seq) (2 ^ 16)) [
                  | inl first ↦
                      (let no : Err BeforeFirst ≡ Err IndexSpent =
                      rw (lt-leb (apart h (h / 2 ^ 16 * 2 ^ 16 + seq)) (2 ^ 15) far, le-ltb (h / 2 ^ 16 * 2 ^ 16 + seq) h ahead, lt-ltb (h / 2 ^ 16 * 2 ^ 16 + seq) (2 ^ 16) first) at e in cc)
                  | inr later ↦
                      found_at h seq (h / 2 ^ 16 * 2 ^ 16 + seq - 2 ^ 16) (record { number = omega arith; near = omega arith; tie = λ t. omega arith })
                      (rw (lt-leb (apart h (h / 2 ^ 16 * 2 ^ 16 + seq)) (2 ^ 15) far, le-ltb (h / 2 ^ 16 * 2 ^ 16 + seq) h ahead, le-ltb (h / 2 ^ 16 * 2 ^ 16 + seq) (2 ^ 16) later) at e)
                ])
          ])
    ]

pub spent_from : (h seq n : ℕ) → IsNearest h seq n → 2 ^ 48 ≤ n → nearest_index h seq ≡ Err IndexSpent
spent_from h seq n near above = grind arith

not_first : (n : ℕ) → within_life n ≡ Err BeforeFirst → ⊥
not_first n e =
    elim (cases_lt n (2 ^ 48)) [
      | inl below ↦ (let no : Ok n ≡ Err BeforeFirst = rw (lt-ltb n (2 ^ 48) below) at e in cc)
      | inr above ↦ (let no : Err IndexSpent ≡ Err BeforeFirst = rw (le-ltb n (2 ^ 48) above) at e in cc)
    ]

-- of an index below 0, a turn higher
pub first_found : (h seq : ℕ) → seq < 2 ^ 16 → nearest_index h seq ≡ Err BeforeFirst → (n : ℕ) × IsNearest (h + 2 ^ 16) seq n × (n < 2 ^ 16)
first_found h seq p e =
    elim (cases_lt (2 ^ 15) (apart h (h / 2 ^ 16 * 2 ^ 16 + seq))) [
      | inr near ↦ absurd (not_first (h / 2 ^ 16 * 2 ^ 16 + seq) (rw (le-leb (apart h (h / 2 ^ 16 * 2 ^ 16 + seq)) (2 ^ 15) near) at e))
      | inl far ↦
          (elim (cases_lt (h / 2 ^ 16 * 2 ^ 16 + seq) h) [
            | inl behind ↦
                absurd (not_first (h / 2 ^ 16 * 2 ^ 16 + seq + 2 ^ 16)
                (rw (lt-leb (apart h (h / 2 ^ 16 * 2 ^ 16 + seq)) (2 ^ 15) far, lt-ltb (h / 2 ^ 16 * 2 ^ 16 + seq) h behind) at e))
            | inr ahead ↦
                (elim (cases_lt (h / 2 ^ 16 * 2 ^ 16 + seq) (2 ^ 16)) [
                  | inl first ↦ (seq, record { number = omega arith; near = omega arith; tie = λ t. omega arith }, p)
                  | inr later ↦
                      absurd (not_first (h / 2 ^ 16 * 2 ^ 16 + seq - 2 ^ 16)
                      (rw (lt-leb (apart h (h / 2 ^ 16 * 2 ^ 16 + seq)) (2 ^ 15) far, le-ltb (h / 2 ^ 16 * 2 ^ 16 + seq) h ahead, le-ltb (h / 2 ^ 16 * 2 ^ 16 + seq) (2 ^ 16) later) at e))
                ])
          ])
    ]

pub first_from : (h seq n : ℕ) → IsNearest (h + 2 ^ 16) seq n → n < 2 ^ 16 → nearest_index h seq ≡ Err BeforeFirst
first_from h seq n near below = grind arith
