-- Lists of so many octets, and the number of octets with two zeros behind.
use Rattle.std.proofs.Common.{◌≡◌, ◌*◌, ◌^◌, ◌+◌, ℕ, List, [], ◌∷◌, ◌++◌, length, slice_index_or, refl, arith, ◌∙◌}
use Rattle.sg_base.specs.Octets.{number_from, number_of}

pub eight : (xs : List ℕ) → length xs ≡ 8 → slice_index_or xs 0 0 ∷ slice_index_or xs 1 0 ∷ slice_index_or xs 2 0 ∷ slice_index_or xs 3 0 ∷ slice_index_or xs 4 0 ∷ slice_index_or xs 5 0 ∷ slice_index_or xs 6 0 ∷ slice_index_or xs 7 0 ∷ [] ≡ xs
eight (a1 ∷ b1 ∷ c1 ∷ d1 ∷ e1 ∷ f1 ∷ g1 ∷ h1 ∷ []) e = refl
eight other e = absurd (omega (arith, e))

pub fourteen : (xs : List ℕ) → length xs ≡ 14 → slice_index_or xs 0 0 ∷ slice_index_or xs 1 0 ∷ slice_index_or xs 2 0 ∷ slice_index_or xs 3 0 ∷ slice_index_or xs 4 0 ∷ slice_index_or xs 5 0 ∷ slice_index_or xs 6 0 ∷ slice_index_or xs 7 0 ∷ slice_index_or xs 8 0 ∷ slice_index_or xs 9 0 ∷ slice_index_or xs 10 0 ∷ slice_index_or xs 11 0 ∷ slice_index_or xs 12 0 ∷ slice_index_or xs 13 0 ∷ [] ≡ xs
fourteen (a1 ∷ b1 ∷ c1 ∷ d1 ∷ e1 ∷ f1 ∷ g1 ∷ h1 ∷ i1 ∷ j1 ∷ k1 ∷ l1 ∷ m1 ∷ n1 ∷ []) e = refl
fourteen other e = absurd (omega (arith, e))

number_append : (n : ℕ) (xs ys : List ℕ) → number_from n (xs ++ ys) ≡ number_from (number_from n xs) ys
number_append n [] ys = refl
number_append n (x ∷ xs) ys = number_append (256 * n + x) xs ys

pub shifted : (xs : List ℕ) → number_of (xs ++ 0 ∷ 0 ∷ []) ≡ number_of xs * 2 ^ 16
shifted xs = number_append 0 xs (0 ∷ 0 ∷ []) ∙ omega arith
