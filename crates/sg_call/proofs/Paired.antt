-- Lists whose items stand for those of another, pair by pair.
use Rattle.std.proofs.Common.{◌≡◌, ℕ, zero, suc, ◌+◌, ◌<◌, Bool, cond, List, [], ◌∷◌, ◌++◌, length, get_or, Some, refl, sym, ap, ◌∙◌, arith}
use Rattle.std.proofs.Math.ListN.{set}
use Rattle.std.proofs.lemmas.Iterator.Adapters.{position_from-zero}
use Rattle.std.specs.List.{position, position_from}
use Rattle.sg_leg.specs.Pairs.{EachPair}

module _ {X Y : Type 0} (R : X → Y → Type 0) where
  pub stands_length : (xs : List X) (ys : List Y) → EachPair R xs ys → length xs ≡ length ys
  stands_length [] [] h = refl
  stands_length (x ∷ xs) (y ∷ ys) h = ap suc (stands_length xs ys h.1)
  stands_length xs ys h = absurd h

  pub stands_at : (xs : List X) (ys : List Y) (i : ℕ) (x : X) (y : Y) → EachPair R xs ys → i < length ys → R (get_or xs i x) (get_or ys i y)
  stands_at [] [] i x y h lt = absurd (omega arith)
  stands_at (u ∷ xs) (v ∷ ys) zero x y h lt = h.0
  stands_at (u ∷ xs) (v ∷ ys) (suc i) x y h lt = stands_at xs ys i x y h.1 (omega arith)
  stands_at xs ys i x y h lt = absurd h

  pub stands_set : (xs : List X) (ys : List Y) (i : ℕ) (x : X) (y : Y) → EachPair R xs ys → R x y → EachPair R (set xs i x) (set ys i y)
  stands_set [] [] i x y h r = tt
  stands_set (u ∷ xs) (v ∷ ys) zero x y h r = (r, h.1)
  stands_set (u ∷ xs) (v ∷ ys) (suc i) x y h r = (h.0, stands_set xs ys i x y h.1 r)
  stands_set xs ys i x y h r = absurd h

  -- the same test finds the same place
  module _ (p : X → Bool) (q : Y → Bool) (same : (x : X) (y : Y) → R x y → p x ≡ q y) where
    from_same : (k : ℕ) (xs : List X) (ys : List Y) → EachPair R xs ys → position_from p k xs ≡ position_from q k ys
    from_same k [] [] h = refl
    from_same k (x ∷ xs) (y ∷ ys) h =
        let test = same x y h.0 in let rest = from_same (k + 1) xs ys h.1 in (λ i. cond (test i) (Some k) (rest i))
    from_same k xs ys h = absurd h

    pub position_same : (xs : List X) (ys : List Y) → EachPair R xs ys → position p xs ≡ position q ys
    position_same xs ys h = position_from-zero p xs ∙ from_same 0 xs ys h ∙ sym (position_from-zero q ys)

  pub stands_append : (xs us : List X) (ys vs : List Y) → EachPair R xs ys → EachPair R us vs → EachPair R (xs ++ us) (ys ++ vs)
  stands_append [] us [] vs h k = k
  stands_append (x ∷ xs) us (y ∷ ys) vs h k = (h.0, stands_append xs us ys vs h.1 k)
  stands_append xs us ys vs h k = absurd h
