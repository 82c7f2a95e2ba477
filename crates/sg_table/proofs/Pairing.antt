-- Three lists, pair by pair.
use Rattle.std.proofs.Common.{◌≡◌, ℕ, suc, ◌<◌, List, [], ◌∷◌, length, get_or, map, arith}
use Rattle.sg_leg.specs.Pairs.{EachPair}

module _ {X Y : Type 0} (R : X → Y → Type 0) (P : List X → List Y → Type 0) (none : P [] []) (more : (x : X) (y : Y) (xs : List X) (ys : List Y) → R x y → P xs ys → P (x ∷ xs) (y ∷ ys)) where
  -- what holds of none, and of each pair more
  pub by_pairs : (xs : List X) (ys : List Y) → EachPair R xs ys → P xs ys
  by_pairs [] [] h = none
  by_pairs (x ∷ xs) (y ∷ ys) h = more x y xs ys h.0 (by_pairs xs ys h.1)
  by_pairs xs ys h = absurd h

pub pairs_weaker : {X Y : Type 0} (R S : X → Y → Type 0) → ((x : X) (y : Y) → R x y → S x y) → (xs : List X) (ys : List Y) → EachPair R xs ys → EachPair S xs ys
pairs_weaker R S f = by_pairs R (λ xs ys. EachPair S xs ys) tt (λ x y xs ys h rest. (f x y h, rest))

-- the first list changed by f
pub pairs_left : {X Y Z : Type 0} (R : X → Y → Type 0) (S : Z → Y → Type 0) (f : X → Z) → ((x : X) (y : Y) → R x y → S (f x) y) → (xs : List X) (ys : List Y) → EachPair R xs ys → EachPair S (map f xs) ys
pairs_left R S f g = by_pairs R (λ xs ys. EachPair S (map f xs) ys) tt (λ x y xs ys h rest. (g x y h, rest))

-- both changed
pub pairs_both : {X Y Z W : Type 0} (R : X → Y → Type 0) (S : Z → W → Type 0) (f : X → Z) (e : Y → W) → ((x : X) (y : Y) → R x y → S (f x) (e y)) → (xs : List X) (ys : List Y)
    → EachPair R xs ys → EachPair S (map f xs) (map e ys)
pairs_both R S f e g = by_pairs R (λ xs ys. EachPair S (map f xs) (map e ys)) tt (λ x y xs ys h rest. (g x y h, rest))

-- by way of a third
pub pairs_by : {X Y Z : Type 0} (R : X → Y → Type 0) (D : X → Z → Type 0) (S : Z → Y → Type 0) → ((x : X) (y : Y) (z : Z) → R x y → D x z → S z y) → (xs : List X) (ys : List Y) (zs : List Z)
    → EachPair R xs ys → EachPair D xs zs → EachPair S zs ys
pairs_by R D S f [] [] [] h k = tt
pairs_by R D S f [] (y ∷ ys) zs h k = absurd h
pairs_by R D S f (x ∷ xs) [] zs h k = absurd h
pairs_by R D S f (x ∷ xs) (y ∷ ys) (z ∷ zs) h k = (f x y z h.0 k.0, pairs_by R D S f xs ys zs h.1 k.1)
pairs_by R D S f xs ys zs h k = absurd k

-- what holds at each place
pub pairs_from_each : {X : Type 0} (R : X → X → Type 0) (xs ys : List X) → length ys ≡ length xs → ((i : ℕ) (d : X) → i < length xs → R (get_or xs i d) (get_or ys i d)) → EachPair R xs ys
pairs_from_each R [] [] e h = tt
pairs_from_each R [] (y ∷ ys) e h = absurd (omega (arith, e))
pairs_from_each R (x ∷ xs) [] e h = absurd (omega (arith, e))
pairs_from_each R (x ∷ xs) (y ∷ ys) e h = (h 0 x (omega arith), pairs_from_each R xs ys (omega (arith, e)) (λ i d lt. h (suc i) d (omega (arith, lt))))
