-- Lists whose items stand for each other, one by one.
use Rattle.std.proofs.Common.{◌≡◌, ℕ, zero, suc, ◌+◌, ◌<◌, ◌∙◌, drop, List, [], ◌∷◌, ◌++◌, length, get_or, set, slice_get, Some, None, ◌≤◌, ap, arith, refl}
use Rattle.std.specs.List.{AllZip}

-- what stands for the item behind the prefix
pub zip_at : {X Y : Type 0} (R : X → Y → Type 0) (xs : List X) (ys : List Y) (y : Y) (zs : List Y) (d : X) → AllZip R xs (ys ++ y ∷ zs) → R (get_or xs (length ys) d) y
zip_at R [] [] y zs d stands = absurd stands
zip_at R [] (b ∷ ys) y zs d stands = absurd stands
zip_at R (x ∷ xs) [] y zs d stands = stands.0
zip_at R (x ∷ xs) (b ∷ ys) y zs d stands = zip_at R xs ys y zs d stands.1

-- with another pair behind the prefix, which then belongs to the prefix
pub zip_more : {X Y : Type 0} (R : X → Y → Type 0) (xs : List X) (ys : List Y) (y : Y) (zs : List Y) (x : X) (b : Y) → AllZip R xs (ys ++ y ∷ zs) → R x b
    → AllZip R (set xs (length ys) x) ((ys ++ b ∷ []) ++ zs)
zip_more R [] [] y zs x b stands new = absurd stands
zip_more R [] (a ∷ ys) y zs x b stands new = absurd stands
zip_more R (w ∷ xs) [] y zs x b stands new = (new, stands.1)
zip_more R (w ∷ xs) (a ∷ ys) y zs x b stands new = (stands.0, zip_more R xs ys y zs x b stands.1 new)

-- the pair at a position, and the lists with another pair there
pub record IsZippedAt (X Y : Type 0) (R : X → Y → Type 0) (xs : List X) (ys : List Y) (i : ℕ) : Type 0 where
  pub item : Y
  pub here : slice_get ys i ≡ Some item
  pub stands : (d : X) → R (get_or xs i d) item
  pub kept : (x : X) (y : Y) → R x y → AllZip R (set xs i x) (set ys i y)

pub zipped_at : {X Y : Type 0} (R : X → Y → Type 0) (xs : List X) (ys : List Y) (i : ℕ) → i < length xs → AllZip R xs ys → IsZippedAt X Y R xs ys i
zipped_at R [] ys i below stands = absurd (omega arith)
zipped_at R (x ∷ xs) [] i below stands = absurd stands
zipped_at R (x ∷ xs) (y ∷ ys) zero below stands = record { item = y; here = refl; stands = λ d. stands.0; kept = λ a b new. (new, stands.1) }
zipped_at R (x ∷ xs) (y ∷ ys) (suc i) below stands =
    let rest : IsZippedAt _ _ R xs ys i = zipped_at R xs ys i (omega arith) stands.1 in
    record { item = rest.item; here = rest.here; stands = rest.stands; kept = λ a b new. (stands.0, rest.kept a b new) }

pub zip_long : {X Y : Type 0} (R : X → Y → Type 0) (xs : List X) (ys : List Y) → AllZip R xs ys → length xs ≡ length ys
zip_long R [] [] stands = refl
zip_long R [] (y ∷ ys) stands = absurd stands
zip_long R (x ∷ xs) [] stands = absurd stands
zip_long R (x ∷ xs) (y ∷ ys) stands = ap suc (zip_long R xs ys stands.1)

-- nothing stands past the end
pub past_none : {Y : Type 0} (ys : List Y) (i : ℕ) → length ys ≤ i → slice_get ys i ≡ None
past_none [] i past = refl
past_none (y ∷ ys) zero past = absurd (omega arith)
past_none (y ∷ ys) (suc i) past = past_none ys i (omega arith)

pub zip_push : {X Y : Type 0} (R : X → Y → Type 0) (xs : List X) (ys : List Y) (x : X) (y : Y) → AllZip R xs ys → R x y → AllZip R (xs ++ x ∷ []) (ys ++ y ∷ [])
zip_push R [] [] x y stands new = (new, tt)
zip_push R [] (b ∷ ys) x y stands new = absurd stands
zip_push R (a ∷ xs) [] x y stands new = absurd stands
zip_push R (a ∷ xs) (b ∷ ys) x y stands new = (stands.0, zip_push R xs ys x y stands.1 new)

-- the next item of a list, and what is left behind it
pub record IsNext (Y : Type 0) (ys : List Y) (i : ℕ) : Type 0 where
  pub item : Y
  pub are : drop i ys ≡ item ∷ drop (i + 1) ys

pub next_at : {Y : Type 0} (ys : List Y) (i : ℕ) → i < length ys → IsNext Y ys i
next_at [] i below = absurd (omega arith)
next_at (y ∷ ys) zero below = record { item = y; are = refl }
next_at {Y} (y ∷ ys) (suc i) below =
    let rest : IsNext Y ys i = next_at ys i (omega arith) in
    let more : suc (i + 1) ≡ suc i + 1 = omega arith in
    record { item = rest.item; are = rest.are ∙ ap (λ (n : ℕ). rest.item ∷ drop n (y ∷ ys)) more }
