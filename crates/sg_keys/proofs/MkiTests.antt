-- The two tests of equal octets.
use Rattle.std.proofs.Common.{◌≡◌, ℕ, List, [], ◌∷◌, nat_eq, refl, ap}
use Rattle.std.specs.Prelude.{◌&&◌}
use Rattle.std.specs.Cmp.Lexicographic.{pointwise}
use Rattle.sg_base.specs.Octets.{same_octets}

pub pointwise_is : (xs ys : List ℕ) → pointwise nat_eq xs ys ≡ same_octets xs ys
pointwise_is [] [] = refl
pointwise_is [] (y ∷ ys) = refl
pointwise_is (x ∷ xs) [] = refl
pointwise_is (x ∷ xs) (y ∷ ys) = ap (λ b. nat_eq x y && b) (pointwise_is xs ys)
