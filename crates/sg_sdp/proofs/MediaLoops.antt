-- The loop over the media.
use Rattle.std.proofs.Common.{◌≡◌, ℕ, zero, suc, ◌+◌, ◌<◌, List, [], ◌∷◌, ◌++◌, length, get_or, take, drop, map, refl, ap, ◌∙◌, arith, add-one}
use Rattle.std.specs.Prelude.{slice_set}
use Rattle.sg_sdp.specs.declared.medium.Medium.{Medium}

same_at : (f : Medium → Medium) (xs : List Medium) (i : ℕ) (d : Medium) → i < length xs → get_or (map f (take i xs) ++ drop i xs) i d ≡ get_or xs i d
same_at f [] i d lt = absurd (omega arith)
same_at f (x ∷ xs) zero d lt = refl
same_at f (x ∷ xs) (suc i) d lt = same_at f xs i d (omega arith)

set_at : (f : Medium → Medium) (xs : List Medium) (i : ℕ) (d : Medium) → i < length xs → slice_set (map f (take i xs) ++ drop i xs) i (f (get_or xs i d)) ≡ map f (take (suc i) xs) ++ drop (suc i) xs
set_at f [] i d lt = absurd (omega arith)
set_at f (x ∷ xs) zero d lt = refl
set_at f (x ∷ xs) (suc i) d lt = ap (λ (l : List Medium). f x ∷ l) (set_at f xs i d (omega arith))

pub fills : (f : Medium → Medium) (xs now : List Medium) (i : ℕ) (d v : Medium) → i < length xs → now ≡ map f (take i xs) ++ drop i xs → v ≡ f (get_or now i d)
    → slice_set now i v ≡ map f (take (i + 1) xs) ++ drop (i + 1) xs
fills f xs now i d v inside e w =
    let value : v ≡ f (get_or xs i d) = w ∙ ap (λ (l : List Medium). f (get_or l i d)) e ∙ ap f (same_at f xs i d inside) in
    rw (value, e, add-one) (set_at f xs i d inside)
