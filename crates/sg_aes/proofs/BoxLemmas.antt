-- Planes of bits through the circuit of the substitution: each wire's rule is a number of 256 bits, one for each octet,
-- which the checker computes.
use Rattle.std.proofs.Common.{◌≡◌, ℕ, ◌+◌, ◌<◌, ◌%◌, List, [], ◌∷◌, refl, ap₂, ap, ◌∙◌, sym, arith, length, map, bit_and, bit_xor, min}
use Rattle.std.specs.Prelude.{slice_index}
use Rattle.std.specs.Int.{bit_at}
use Rattle.std.specs.List.{range_with_len}
use Rattle.std.specs.Simd.Lanes.{zip2}
use Rattle.std.proofs.lemmas.Simd.{get_or-zip2, length-zip2}
use Rattle.std.proofs.lemmas.Nat.Bits.{bit_at_xor, bit_at_and}
use Rattle.sg_aes.specs.Field.{sub_byte, inverse_in, product_of_bits}
use Rattle.sg_aes.specs.Planes.{IsBit, without_constant}
use Rattle.sg_aes.proofs.Octets.{agree}

-- a plane whose bits are those of a rule on octets: bit n of t is the value at n
pub record IsPlane (v : ℕ → ℕ → ℕ) (x : List ℕ) (t : ℕ) : Type 0 where
  pub long : length x ≡ 32
  pub bits : (p j : ℕ) → p < 32 → j < 8 → bit_at (slice_index x p) j ≡ bit_at t (v p j)

pub summed : {v : ℕ → ℕ → ℕ} {a b r : List ℕ} {t u : ℕ} → IsPlane v a t → IsPlane v b u → r ≡ zip2 bit_xor a b → IsPlane v r (bit_xor t u)
summed {v} {a} {b} {r} {t} {u} ha hb e = record {
  long = ap length e ∙ length-zip2 bit_xor a b (ha.long ∙ sym hb.long) ∙ ha.long;
  bits = λ p j hp hj.
      ap (λ x. bit_at (slice_index x p) j) e ∙ ap (λ (n : ℕ). bit_at n j) (get_or-zip2 bit_xor a b p 0 0 0 (omega (arith, ha.long)) (omega (arith, hb.long)))
      ∙ bit_at_xor (slice_index a p) (slice_index b p) j ∙ ap₂ (λ (m n : ℕ). (m + n) % 2) (ha.bits p j hp hj) (hb.bits p j hp hj) ∙ sym (bit_at_xor t u (v p j));
}

pub met : {v : ℕ → ℕ → ℕ} {a b r : List ℕ} {t u : ℕ} → IsPlane v a t → IsPlane v b u → r ≡ zip2 bit_and a b → IsPlane v r (bit_and t u)
met {v} {a} {b} {r} {t} {u} ha hb e = record {
  long = ap length e ∙ length-zip2 bit_and a b (ha.long ∙ sym hb.long) ∙ ha.long;
  bits = λ p j hp hj.
      ap (λ x. bit_at (slice_index x p) j) e ∙ ap (λ (n : ℕ). bit_at n j) (get_or-zip2 bit_and a b p 0 0 0 (omega (arith, ha.long)) (omega (arith, hb.long)))
      ∙ bit_at_and (slice_index a p) (slice_index b p) j ∙ ap₂ (λ (m n : ℕ). min m n) (ha.bits p j hp hj) (hb.bits p j hp hj) ∙ sym (bit_at_and t u (v p j));
}

pub taken : (b t : ℕ) → map (λ n. bit_at n b) (range_with_len 0 256) ≡ map (bit_at t) (range_with_len 0 256) → {v : ℕ → ℕ → ℕ} {x : List ℕ} → ((p j : ℕ) → v p j < 256) → IsBit v x b → IsPlane v x t
taken b t e {v} {x} small h = record {
  long = h.long;
  bits = λ p j hp hj. h.bits p j hp hj ∙ agree 0 (λ n. bit_at n b) (bit_at t) 256 e (v p j) (small p j);
}

pub given : (b t : ℕ) → map (bit_at t) (range_with_len 0 256) ≡ map (λ n. bit_at (without_constant n) b) (range_with_len 0 256) → {v : ℕ → ℕ → ℕ} {x : List ℕ} → ((p j : ℕ) → v p j < 256) → IsPlane v x t → IsBit (λ p j. without_constant (v p j)) x b
given b t e {v} {x} small h = record { long = h.long; bits = λ p j hp hj. h.bits p j hp hj ∙ agree 0 (bit_at t) (λ n. bit_at (without_constant n) b) 256 e (v p j) (small p j) }

-- what the circuit gives, bit by bit
abbrev pub outputs : List ℕ
outputs =
    0xb0e152c690db85fbef424def3ff9154a9754b405753485ec4eb12198f6939112
    ∷ 0x378f68bf6b15275695baf4d10ccb794b19e5b3a1687e90858451ff82b3ac0382
    ∷ 0xac39b6c0d6ce2efc577d64e03b0c3ffb23a869a2a428c424a16387fb3b48b4c6
    ∷ 0x4e9ddb76c892fb1be9da849cf6ac6c1b2568ea2effa8527d109020a2193d586a
    ∷ 0xf210a3aece472e532624b286bc48ecb4f7f17a494ce30f58c2b0f97752b8b11e
    ∷ 0xab4db7ecf4b0da90827233b8f9ce61f7943d55b1f287855b07fba08492672280
    ∷ 0xde1f47ccdaa6e87dc094346e4cf24aa61b7ae4c40c54da9f67f5c33d3d024b00
    ∷ 0x52379de7b844e3e14cb3770196ca0329e7bac28f866aac825caa2ec7bf977090 ∷ []

pub table : (b : ℕ) → b < 8 → map (bit_at (slice_index outputs b)) (range_with_len 0 256) ≡ map (λ n. bit_at (without_constant n) b) (range_with_len 0 256)
unfolding sub_byte inverse_in product_of_bits
table = agree [] (λ b. map (bit_at (slice_index outputs b)) (range_with_len 0 256)) (λ b. map (λ n. bit_at (without_constant n) b) (range_with_len 0 256)) 8 refl
