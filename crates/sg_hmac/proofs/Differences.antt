-- The differences of octets, gathered by OR.
use Rattle.std.proofs.Common.{◌≡◌, ◌<◌, ◌≤◌, ◌+◌, ℕ, List, take, length, get_or, bit_or, bit_xor, arith, ap, sym, ◌∙◌}
use Rattle.std.specs.Int.Bits.{or_zero_l, xor_self, xor_add_and}
use Rattle.std.proofs.lemmas.Nat.{and_le_l, and_le_r, le_or_l, le_or_r}
use Rattle.std.proofs.lemmas.List.{take_more_same, get_or-take, take-take}

-- no difference so far, and none here
none : (d x y : ℕ) → bit_or d (bit_xor x y) ≡ 0 → (d ≡ 0) × (x ≡ y)
none d x y is =
    let before : d ≤ bit_or d (bit_xor x y) = le_or_l d _ in
    let here : bit_xor x y ≤ bit_or d (bit_xor x y) = le_or_r d _ in
    let sum = xor_add_and x y in
    let left = and_le_l x y in
    let right = and_le_r x y in
    (omega (arith, is, before), omega (arith, is, here, sum, left, right))

gathered : (d x y : ℕ) → d ≡ 0 → x ≡ y → bit_or d (bit_xor x y) ≡ 0
gathered d x y is same =
    ap (λ n. bit_or n (bit_xor x y)) is ∙ or_zero_l _ ∙ ap (λ n. bit_xor x n) (sym same) ∙ xor_self x

-- the prefixes of i octets are alike exactly where no difference was gathered
abbrev pub AreAlike : ℕ → ℕ → List ℕ → List ℕ → Type 0
AreAlike d i xs ys = (d ≡ 0 → take i xs ≡ take i ys) × (take i xs ≡ take i ys → d ≡ 0)

shorter : (xs : List ℕ) (i : ℕ) → take i (take (i + 1) xs) ≡ take i xs
shorter xs i = take-take i (i + 1) xs (omega arith)

-- prefixes that are one octet longer
prefix : (xs ys : List ℕ) (i : ℕ) → i < length xs → i < length ys → take (i + 1) xs ≡ take (i + 1) ys
    → (take i xs ≡ take i ys) × (get_or xs i 0 ≡ get_or ys i 0)
prefix xs ys i in_xs in_ys same =
    let lt : i < i + 1 = omega arith in (
      sym (shorter xs i) ∙ ap (take i) same ∙ shorter ys i,
      sym (get_or-take (i + 1) xs i 0 lt) ∙ ap (λ (l : List ℕ). get_or l i 0) same ∙ get_or-take (i + 1) ys i 0 lt,
    )

pub more : (d i : ℕ) (xs ys : List ℕ) → i < length xs → i < length ys → AreAlike d i xs ys
    → AreAlike (bit_or d (bit_xor (get_or xs i 0) (get_or ys i 0))) (i + 1) xs ys
more d i xs ys in_xs in_ys so_far = (
  λ is. let parts = none d _ _ is in take_more_same xs ys i 0 in_xs in_ys (so_far.0 parts.0) parts.1,
  λ is. let parts = prefix xs ys i in_xs in_ys is in gathered d _ _ (so_far.1 parts.0) parts.1,
)
