-- Lists that are one behind another.
use Rattle.std.proofs.Common.{◌≡◌, ◌⊎◌, inl, inr, List, [], ◌∷◌, ◌++◌, refl}
use Rattle.std.specs.List.{AllByRecursion, Any}
use Rattle.sg_session.proofs.Lists.{any_cases, any_here, any_none, any_there}

pub each_of_list : {X : Type 0} (P : X → Type 0) (xs : List X) → ((x : X) → Any (λ y. y ≡ x) xs → P x) → AllByRecursion P xs
each_of_list P [] h = tt
each_of_list P (x ∷ xs) h = (h x (any_here (λ y. y ≡ x) x xs refl), each_of_list P xs (λ y a. h y (any_there (λ z. z ≡ y) x xs a)))

module _ {X : Type 0} where
  pub any_parts : (P : X → Type 0) (xs ys : List X) → Any P (xs ++ ys) → Any P xs ⊎ Any P ys
  any_parts P [] ys a = inr a
  any_parts P (x ∷ xs) ys a = elim (any_cases P x (xs ++ ys) a) [
    | inl here ↦ inl (any_here P x xs here)
    | inr more ↦ elim (any_parts P xs ys more) [
      | inl left ↦ inl (any_there P x xs left)
      | inr right ↦ inr right
    ]
  ]

  pub any_first : (P : X → Type 0) (xs ys : List X) → Any P xs → Any P (xs ++ ys)
  any_first P [] ys a = absurd (any_none P a)
  any_first P (x ∷ xs) ys a = elim (any_cases P x xs a) [
    | inl here ↦ any_here P x (xs ++ ys) here
    | inr later ↦ any_there P x (xs ++ ys) (any_first P xs ys later)
  ]

  pub any_second : (P : X → Type 0) (xs ys : List X) → Any P ys → Any P (xs ++ ys)
  any_second P [] ys a = a
  any_second P (x ∷ xs) ys a = any_there P x (xs ++ ys) (any_second P xs ys a)

  pub any_last : (P : X → Type 0) (xs : List X) (x : X) → P x → Any P (xs ++ x ∷ [])
  any_last P xs x p = any_second P xs (x ∷ []) (any_here P x [] p)

-- each is among them
pub all_any : {X : Type 0} (xs : List X) → AllByRecursion (λ x. Any (λ y. y ≡ x) xs) xs
all_any xs = each_of_list (λ x. Any (λ y. y ≡ x) xs) xs (λ x a. a)
