-- Words that are among lists of words.
use Rattle.std.proofs.Common.{◌≡◌, ◌⊎◌, List, [], ◌∷◌, ◌++◌, map, refl, ap, inl, inr}
use Rattle.sg_words.specs.Commands.{IsOneOf, Words}

pub in_map : (f : Words → Words) (ws : Words) (xs : List Words) → IsOneOf ws xs → IsOneOf (f ws) (map f xs)
in_map f ws [] among = absurd among
in_map f ws (x ∷ xs) (inl e) = inl (ap f e)
in_map f ws (x ∷ xs) (inr among) = inr (in_map f ws xs among)

pub in_left : (ws : Words) (xs ys : List Words) → IsOneOf ws xs → IsOneOf ws (xs ++ ys)
in_left ws [] ys among = absurd among
in_left ws (x ∷ xs) ys (inl e) = inl e
in_left ws (x ∷ xs) ys (inr among) = inr (in_left ws xs ys among)

pub in_right : (ws : Words) (xs ys : List Words) → IsOneOf ws ys → IsOneOf ws (xs ++ ys)
in_right ws [] ys among = among
in_right ws (x ∷ xs) ys among = inr (in_right ws xs ys among)

pub either : (ws : Words) (xs ys : List Words) → IsOneOf ws (xs ++ ys) → IsOneOf ws xs ⊎ IsOneOf ws ys
either ws [] ys among = inr among
either ws (x ∷ xs) ys (inl e) = inl (inl e)
either ws (x ∷ xs) ys (inr among) = elim (either ws xs ys among) [
  | inl here ↦ inl (inr here)
  | inr there ↦ inr there
]

-- the words are made of others that are among the list
pub record IsMade (f : Words → Words) (ws : Words) (xs : List Words) : Type 0 where
  pub others : Words
  pub is : ws ≡ f others
  pub among : IsOneOf others xs

pub of_map : (f : Words → Words) (ws : Words) (xs : List Words) → IsOneOf ws (map f xs) → IsMade f ws xs
of_map f ws [] among = absurd among
of_map f ws (x ∷ xs) (inl e) = record { others = x; is = e; among = inl refl }
of_map f ws (x ∷ xs) (inr among) =
    let made = of_map f ws xs among in
    record { others = made.others; is = made.is; among = inr made.among }
