-- Lists that are walked, and lists that are edited in place.
use Rattle.std.proofs.Common.{◌≡◌, ℕ, suc, ◌+◌, ◌<◌, List, ◌∷◌, length, get_or, drop, sym, ap, add-one, drop-cons}
use Rattle.std.proofs.Math.Seq.{take-append_seam}
use Rattle.std.specs.List.{refill}

-- what is left from a place on is the item there and what is left behind it
pub drop_next : {A : Type 0} (xs : List A) (i : ℕ) (d : A) → i < length xs → drop i xs ≡ get_or xs i d ∷ drop (i + 1) xs
drop_next xs i d lt = rw add-one (drop-cons xs i d lt)

pub split_here : {A : Type 0} (xs : List A) (i : ℕ) (x : A) → i < length xs → x ≡ get_or xs i x → drop i xs ≡ x ∷ drop (i + 1) xs
split_here xs i x lt is = rw (add-one, drop-cons xs i x lt) (ap (λ (y : _). y ∷ drop (suc i) xs) (sym is))

-- a list that is refilled by one of its length is that one
pub refill_same : {X : Type 0} (n : ℕ) (xs ys : List X) → length ys ≡ n → refill n xs ys ≡ ys
refill_same n xs ys e = rw (← e) (take-append_seam ys _)
