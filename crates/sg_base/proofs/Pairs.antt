-- Octets as pairs of lower digits.
use Rattle.std.proofs.Common.{◌≡◌, ℕ, zero, suc, ◌+◌, ◌*◌, ◌/◌, ◌%◌, ◌<◌, ◌≤◌, Bool, true, false, List, [], ◌∷◌, length, Option, Some, None, refl, sym, ap, ◌∙◌, arith, inl, inr}
use Rattle.std.specs.Prelude.{option_and_then, is_some, ◌&&◌, slice_index}
use Rattle.std.specs.List.{list_all}
use Rattle.hex.specs.Hex.{encode_lower, encode_with, lower_digits, IsBytes}
use Rattle.sg_base.specs.Fields.{lower_digit, octets_at}
use Rattle.std.proofs.lemmas.Bool.{cases_Bool}
use Rattle.sg_base.proofs.Cases.{and_then_some, map_some}

abbrev pub is_lower : ℕ → Bool
is_lower c = is_some (lower_digit c)

some_value : {A : Type 0} (o : Option A) → is_some o ≡ true → (v : A) × (o ≡ Some v)
some_value (Some v) e = (v, refl)
some_value None e = absurd cc

twice_none : (o p : Option ℕ) → option_and_then {T = ℕ} {U = List ℕ} (λ h. option_and_then {T = ℕ} (λ l. None) p) o ≡ None
twice_none (Some x) (Some y) = refl
twice_none (Some x) None = refl
twice_none None p = refl

pub octets_at_odd : (t : List ℕ) → length t % 2 ≡ 1 → octets_at t ≡ None
unfolding octets_at
octets_at_odd [] odd = absurd (omega arith)
octets_at_odd (a ∷ []) odd = refl
octets_at_odd (a ∷ b ∷ rest) odd = rw (octets_at_odd rest (omega arith)) (twice_none (lower_digit a) (lower_digit b))

not_lower : (o : Option ℕ) → is_some o ≡ false → o ≡ None
not_lower (Some v) e = absurd cc
not_lower None e = refl

none_after : {A B : Type 0} (o : Option A) → option_and_then {U = B} (λ x. None) o ≡ None
none_after (Some x) = refl
none_after None = refl

pub octets_at_other : (t : List ℕ) → list_all is_lower t ≡ false → octets_at t ≡ None
unfolding octets_at
octets_at_other [] e = absurd cc
octets_at_other (a ∷ []) e = refl
octets_at_other (a ∷ b ∷ rest) e =
    elim (cases_Bool (is_lower a)) [
      | inr bad ↦ rw (not_lower (lower_digit a) bad) refl
      | inl good ↦
          elim (cases_Bool (is_lower b)) [
            | inr bad ↦ rw (not_lower (lower_digit b) bad) (none_after (lower_digit a))
            | inl fine ↦
                let f : list_all is_lower rest ≡ false = sym (ap (λ (x : Bool). x && (is_lower b && list_all is_lower rest)) good ∙ ap (λ (x : Bool). x && list_all is_lower rest) fine) ∙ e in
                let h = some_value (lower_digit a) good in
                let l = some_value (lower_digit b) fine in
                rw (octets_at_other rest f, h.1, l.1) refl
          ]
    ]

-- the digit of a value
pub glyph : (v : ℕ) → v < 16 → lower_digit (slice_index lower_digits v) ≡ Some v
glyph zero lt = refl
glyph (suc zero) lt = refl
glyph (suc (suc zero)) lt = refl
glyph (suc (suc (suc zero))) lt = refl
glyph (suc (suc (suc (suc zero)))) lt = refl
glyph (suc (suc (suc (suc (suc zero))))) lt = refl
glyph (suc (suc (suc (suc (suc (suc zero)))))) lt = refl
glyph (suc (suc (suc (suc (suc (suc (suc zero))))))) lt = refl
glyph (suc (suc (suc (suc (suc (suc (suc (suc zero)))))))) lt = refl
glyph (suc (suc (suc (suc (suc (suc (suc (suc (suc zero))))))))) lt = refl
glyph (suc (suc (suc (suc (suc (suc (suc (suc (suc (suc zero)))))))))) lt = refl
glyph (suc (suc (suc (suc (suc (suc (suc (suc (suc (suc (suc zero))))))))))) lt = refl
glyph (suc (suc (suc (suc (suc (suc (suc (suc (suc (suc (suc (suc zero)))))))))))) lt = refl
glyph (suc (suc (suc (suc (suc (suc (suc (suc (suc (suc (suc (suc (suc zero))))))))))))) lt = refl
glyph (suc (suc (suc (suc (suc (suc (suc (suc (suc (suc (suc (suc (suc (suc zero)))))))))))))) lt = refl
glyph (suc (suc (suc (suc (suc (suc (suc (suc (suc (suc (suc (suc (suc (suc (suc zero))))))))))))))) lt = refl
glyph (suc (suc (suc (suc (suc (suc (suc (suc (suc (suc (suc (suc (suc (suc (suc (suc v)))))))))))))))) lt = absurd (omega arith)

-- two digits have no value in common
one_digit : (a b v : ℕ) → lower_digit a ≡ Some v → lower_digit b ≡ Some v → a ≡ b
one_digit a b v p q = grind (arith)

pub digit_above : (a v : ℕ) → lower_digit a ≡ Some v → 48 ≤ a
digit_above a v p = grind (arith)

small : (a v : ℕ) → lower_digit a ≡ Some v → v < 16
small a v p = grind (arith)

glyph_is : (a v : ℕ) → lower_digit a ≡ Some v → slice_index lower_digits v ≡ a
glyph_is a v e = one_digit (slice_index lower_digits v) a v (glyph v (small a v e)) e

pub octets_again : (bytes : List ℕ) → IsBytes bytes → octets_at (encode_lower bytes) ≡ Some bytes
unfolding octets_at encode_with
octets_again [] fits = refl
octets_again (b ∷ bytes) fits =
    let whole : b / 16 * 16 + b % 16 ≡ b = omega arith in
    let rest : octets_at (encode_lower bytes) ≡ Some bytes = octets_again bytes (λ i. fits (suc i)) in
    let first : b < 256 = fits 0 in
    rw (glyph (b / 16) (omega arith), glyph (b % 16) (omega arith), rest, whole) refl

IsBytes-cons : (b : ℕ) (rest : List ℕ) → b < 256 → IsBytes rest → IsBytes (b ∷ rest)
IsBytes-cons b rest h hs zero = h
IsBytes-cons b rest h hs (suc i) = hs i

pub octets_take : (t bytes : List ℕ) → octets_at t ≡ Some bytes → (t ≡ encode_lower bytes) × IsBytes bytes
unfolding octets_at encode_with
octets_take [] bytes e = let f : [] ≡ bytes = cc in rw (← f) (refl, λ i. omega arith)
octets_take (a ∷ []) bytes e = absurd cc
octets_take (a ∷ b ∷ rest) bytes e =
    let h = and_then_some (lower_digit a) _ bytes e in
    let l = and_then_some (lower_digit b) _ bytes h.2 in
    let r = map_some (octets_at rest) _ bytes l.2 in
    let ih = octets_take rest r.0 r.1 in
    let hs = small a h.0 h.1 in
    let ls = small b l.0 l.1 in
    let high : (h.0 * 16 + l.0) / 16 ≡ h.0 = omega arith in
    let low : (h.0 * 16 + l.0) % 16 ≡ l.0 = omega arith in
    rw (← r.2) (rw (high, low, glyph_is a h.0 h.1, glyph_is b l.0 l.1, ← ih.0) refl, IsBytes-cons (h.0 * 16 + l.0) r.0 (omega arith) ih.1)
