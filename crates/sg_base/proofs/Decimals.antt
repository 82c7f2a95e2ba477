-- Numbers in decimal: each has the one spelling `decimal`.
use Rattle.std.proofs.Common.{◌≡◌, ℕ, ◌+◌, ◌%◌, ◌^◌, ◌<◌, ◌≤◌, true, false, leb, List, [], ◌∷◌, ◌++◌, length, Option, Some, None, refl, sym, ap, subst, ◌∙◌, inl, inr, arith, length-append}
use Rattle.std.specs.Prelude.{◌&&◌, not, slice_index}
use Rattle.std.specs.Fmt.{decimal}
use Rattle.std.specs.Str.{bytes_eq}
use Rattle.std.specs.Int.{IsInRange}
use Rattle.std.specs.Str.Parse.{AllDigits, digits_value}
use Rattle.std.proofs.lemmas.Fmt.{decimal-digits_value, decimal_by_steps_wide, decimal_digit, decimal_is_IsNumeral_wide}
use Rattle.std.proofs.lemmas.Str.Parse.{digit_at, numerals_by_value, tells_digits}
use Rattle.std.proofs.lemmas.Slice.Eq.{bytes_eq-Decides}
use Rattle.std.proofs.lemmas.Bool.{and_parts, cases_lt, leb-true, le-leb, not-false}
use Rattle.sg_base.specs.Fields.{number_at}
use Rattle.sg_base.proofs.Cases.{guarded, none_some, some_is}

-- what is spelled so is read
pub number_again : (most n : ℕ) → n ≤ most → most < 10 ^ 64 → number_at most (decimal n) ≡ Some n
unfolding number_at
number_again most n small wide =
    let v = (decimal_is_IsNumeral_wide n (omega arith)).1 in
    rw (v, (bytes_eq-Decides (decimal n) (decimal n)).1 refl, le-leb n most small) refl

-- what is read is spelled so
pub number_takes : (most : ℕ) (t : List ℕ) (n : ℕ) → number_at most t ≡ Some n → (t ≡ decimal n) × (n ≤ most)
unfolding number_at
number_takes most t n e =
    let g = guarded (bytes_eq (decimal (digits_value 10 t)) t && leb (digits_value 10 t) most) (digits_value 10 t) n e in
    let p = and_parts (bytes_eq (decimal (digits_value 10 t)) t) (leb (digits_value 10 t) most) g.0 in
    let small : digits_value 10 t ≤ most = leb-true _ _ p.1 in
    (sym ((bytes_eq-Decides (decimal (digits_value 10 t)) t).0 p.0) ∙ ap decimal g.1, omega (arith, g.1))

pub none_unless : (most : ℕ) (t : List ℕ) (o : Option ℕ) → number_at most t ≡ o → ((n : ℕ) → n ≤ most → t ≡ decimal n → ⊥) → o ≡ None
none_unless most t None e none = refl
none_unless most t (Some n) e none = let p = number_takes most t n e in absurd (none n p.1 p.0)

pub number_none : (most : ℕ) (t : List ℕ) → ((n : ℕ) → n ≤ most → t ≡ decimal n → ⊥) → number_at most t ≡ None
number_none most t none = none_unless most t (number_at most t) refl none

-- what `!=` on slices says
pub differ : (a b : List ℕ) → true ≡ not (bytes_eq a b) → a ≡ b → ⊥
differ a b h e = let f : bytes_eq a b ≡ true = (bytes_eq-Decides a b).1 e in absurd cc

pub agree : (a b : List ℕ) → false ≡ not (bytes_eq a b) → a ≡ b
agree a b h = (bytes_eq-Decides a b).0 (not-false (bytes_eq a b) (sym h))

-- digits spell a number where no zero leads them, unless it is alone
pub spelled : (most : ℕ) (t : List ℕ) → AllDigits 10 t → 0 < length t → (slice_index t 0 ≡ 48 → length t ≡ 1) → digits_value 10 t < 2 ^ 64 → 2 ^ 64 ≤ most → most < 10 ^ 64
    → number_at most t ≡ Some (digits_value 10 t)
spelled most t digits some lead small wide fits =
    let same : decimal (digits_value 10 t) ≡ t = decimal-digits_value (numerals_by_value _ tells_digits) t digits some lead small in
    ap (number_at most) (sym same) ∙ number_again most (digits_value 10 t) (omega (arith, small, wide)) fits

-- so does a zero alone
pub zero_alone : (most : ℕ) (t : List ℕ) → most < 10 ^ 64 → length t ≡ 1 → slice_index t 0 ≡ 48 → Some 0 ≡ number_at most t
zero_alone most t fits one zero = sym (ap (number_at most) (alone t one zero ∙ sym (decimal_digit 0 (omega arith))) ∙ number_again most 0 (omega arith) fits)
  where
    alone : (t : List ℕ) → length t ≡ 1 → slice_index t 0 ≡ 48 → t ≡ 48 ∷ []
    alone (d ∷ []) one zero = ap (λ (x : ℕ). x ∷ []) zero
    alone t one zero = absurd (omega arith)

-- no number is spelled by nothing
pub not_empty : (most : ℕ) (t : List ℕ) → most < 10 ^ 64 → length t ≡ 0 → number_at most t ≡ None
not_empty most t fits empty =
    number_none most t (λ n small e. let some : 0 < length (decimal n) = (decimal_is_IsNumeral_wide n (omega (arith, small, fits))).0.0 in omega (arith, some, empty, ap (λ (l : List ℕ). length l) e))

-- nor with another octet than a digit
pub not_digit : (most : ℕ) (t : List ℕ) (i : ℕ) → most < 10 ^ 64 → i < length t → ¬ IsInRange 48 57 (slice_index t i) → number_at most t ≡ None
not_digit most t i fits within other =
    number_none most t (λ n small e. other (digit_at t i (subst (AllDigits 10) (sym e) (decimal_is_IsNumeral_wide n (omega (arith, small, fits))).0.1) within))

-- the first digit of a number of more than one isn't zero
leads : (n : ℕ) → n < 10 ^ 64 → (0 < length (decimal n)) × (0 < n → 48 < slice_index (decimal n) 0) × (n < 10 → length (decimal n) ≡ 1)
leads = decimal_by_steps_wide (λ m ds. (0 < length ds) × (0 < m → 48 < slice_index ds 0) × (m < 10 → length ds ≡ 1)) (λ m l. (omega arith, λ some. omega (arith, some), λ less. refl))
    (λ m ds l h. (omega (arith, length-append ds ((48 + m % 10) ∷ [])), λ some. prefix ds (48 + m % 10) h.0 (h.1 (omega (arith, l))), λ less. absurd (omega (arith, l, less))))
  where
    prefix : (ds : List ℕ) (x : ℕ) → 0 < length ds → 48 < slice_index ds 0 → 48 < slice_index (ds ++ x ∷ []) 0
    prefix [] x some above = absurd (omega (arith, some))
    prefix (d ∷ ds) x some above = above

-- nor with a zero before other digits
pub not_led : (most : ℕ) (t : List ℕ) → most < 10 ^ 64 → slice_index t 0 ≡ 48 → 1 < length t → number_at most t ≡ None
not_led most t fits zero long = number_none most t (λ n small e.
    let first = leads n (omega (arith, small, fits)) in
    let is : slice_index (decimal n) 0 ≡ 48 = ap (λ (l : List ℕ). slice_index l 0) (sym e) ∙ zero in
    let more : 1 < length (decimal n) = omega (arith, ap (λ (l : List ℕ). length l) e, long) in
    elim (cases_lt 0 n) [
      | inl some ↦ omega (arith, first.1 some, is)
      | inr none ↦ omega (arith, first.2 (omega (arith, none)), more)
    ])

-- none, also below a lower mark
pub none_below : (wide most : ℕ) (t : List ℕ) → most ≤ wide → wide < 10 ^ 64 → None ≡ number_at wide t → None ≡ number_at most t
none_below wide most t le fits none =
    sym (number_none most t (λ n small e. none_some n (none ∙ ap (number_at wide) e ∙ number_again wide n (omega (arith, small, le)) fits)))

-- a number is read below a mark that it doesn't pass, and not below another
pub some_below : (wide most n : ℕ) (t : List ℕ) → most ≤ wide → wide < 10 ^ 64 → Some n ≡ number_at wide t → n ≤ most → Some n ≡ number_at most t
some_below wide most n t le fits some small =
    let takes = number_takes wide t n (sym some) in
    sym (ap (number_at most) takes.0 ∙ number_again most n small (omega (arith, le, fits)))

pub none_above : (wide most n : ℕ) (t : List ℕ) → most ≤ wide → wide < 10 ^ 64 → Some n ≡ number_at wide t → most < n → None ≡ number_at most t
none_above wide most n t le fits some above =
    sym (number_none most t (λ m small e.
    let same : n ≡ m = some_is n m (some ∙ ap (number_at wide) e ∙ number_again wide m (omega (arith, small, le)) fits) in
    omega (arith, same, small, above)))
