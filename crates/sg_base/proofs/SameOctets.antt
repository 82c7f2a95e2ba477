-- Equal lists pass the test, and lists that pass it are equal.
use Rattle.std.proofs.Common.{◌∙◌, ◌≡◌, ℕ, true, List, [], ◌∷◌, refl, sym, ap, eq-eqb}
use Rattle.std.proofs.lemmas.Bool.{and_from, and_parts, eqb-true, false≢true}
use Rattle.sg_base.specs.Octets.{same_octets}

pub same_octets_true : (xs ys : List ℕ) → xs ≡ ys → same_octets xs ys ≡ true
same_octets_true xs ys e = ap (same_octets xs) (sym e) ∙ itself xs
  where
    itself : (xs : List ℕ) → same_octets xs xs ≡ true
    itself [] = refl
    itself (x ∷ xs) = and_from _ _ (eq-eqb x x refl) (itself xs)

pub same_octets_is : (xs ys : List ℕ) → same_octets xs ys ≡ true → xs ≡ ys
same_octets_is [] [] e = refl
same_octets_is [] (y ∷ ys) e = absurd (false≢true e)
same_octets_is (x ∷ xs) [] e = absurd (false≢true e)
same_octets_is (x ∷ xs) (y ∷ ys) e =
    let parts = and_parts _ _ e in
    (λ i. eqb-true x y parts.0 i ∷ same_octets_is xs ys parts.1 i)
