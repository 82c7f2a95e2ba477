-- Lists of passages, of their turns and of what is seen of them.
use Rattle.std.proofs.Common.{◌≡◌, inl, inr, List, [], ◌∷◌, ◌++◌, map, refl, ap}
use Rattle.std.specs.List.{AllByRecursion, Any}
use Rattle.sg_session.proofs.Lists.{any_cases, any_here, any_none, any_there}

pub any_map : {X Y : Type 0} (P : Y → Type 0) (f : X → Y) (xs : List X) → Any (λ x. P (f x)) xs → Any P (map f xs)
any_map P f [] a = absurd (any_none (λ x. P (f x)) a)
any_map P f (x ∷ xs) a = elim (any_cases (λ x. P (f x)) x xs a) [
  | inl here ↦ any_here P (f x) (map f xs) here
  | inr more ↦ any_there P (f x) (map f xs) (any_map P f xs more)
]

pub any_of_map : {X Y : Type 0} (P : Y → Type 0) (f : X → Y) (xs : List X) → Any P (map f xs) → Any (λ x. P (f x)) xs
any_of_map P f [] a = absurd (any_none P a)
any_of_map P f (x ∷ xs) a = elim (any_cases P (f x) (map f xs) a) [
  | inl here ↦ any_here (λ x. P (f x)) x xs here
  | inr more ↦ any_there (λ x. P (f x)) x xs (any_of_map P f xs more)
]

pub map_parts : {X Y : Type 0} (f : X → Y) (xs ys : List X) → map f (xs ++ ys) ≡ map f xs ++ map f ys
map_parts f [] ys = refl
map_parts f (x ∷ xs) ys = ap (λ l. f x ∷ l) (map_parts f xs ys)

pub each_behind : {X : Type 0} (P : X → Type 0) (xs ys : List X) → AllByRecursion P (xs ++ ys) → AllByRecursion P ys
each_behind P [] ys p = p
each_behind P (x ∷ xs) ys p = each_behind P xs ys p.1

pub each_before : {X : Type 0} (P : X → Type 0) (xs ys : List X) → AllByRecursion P (xs ++ ys) → AllByRecursion P xs
each_before P [] ys p = tt
each_before P (x ∷ xs) ys p = (p.0, each_before P xs ys p.1)
