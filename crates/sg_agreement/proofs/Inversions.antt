-- What an answer that was given says of its stages.
use Rattle.std.proofs.Common.{◌≡◌, Bool, true, false, cond, List, [], ◌∷◌, Option, Some, None, Ok, refl, ap, subst}
use Rattle.std.proofs.lemmas.Bool.{and_parts}
use Rattle.std.specs.List.{AllByRecursion, find, list_all}
use Rattle.sg_base.specs.declared.faults.Refusal.{Refusal}
use Rattle.sg_agreement.specs.Refusals.{or_refusal}

pub some_unless : {X : Type 0} (b : Bool) (r : Option X) (y : X) → cond b None r ≡ Some y → (b ≡ false) × (r ≡ Some y)
some_unless true r y e = absurd cc
some_unless false r y e = (refl, e)

pub either : {X : Type 0} (P : X → Type 0) (b : Bool) (r s : Option X) (y : X) → cond b r s ≡ Some y → (r ≡ Some y → P y) → (s ≡ Some y → P y) → P y
either P true r s y e p q = p e
either P false r s y e p q = q e

pub or_refusal_is : {X : Type 0} (refusal : Refusal) (o : Option X) (x : X) → or_refusal refusal o ≡ Ok x → o ≡ Some x
or_refusal_is refusal None x e = absurd cc
or_refusal_is refusal (Some y) x e = let same : y ≡ x = cc in ap Some same

pub find_all : {X : Type 0} (P : X → Type 0) (test : X → Bool) (xs : List X) (x : X) → find test xs ≡ Some x → AllByRecursion P xs → P x
find_all P test [] x e p = absurd cc
find_all P test (y ∷ ys) x e p = go (λ is. find_all P test ys x is p.1) (test y) e
  where
    go : (find test ys ≡ Some x → P x) → (b : Bool) → cond b (Some y) (find test ys) ≡ Some x → P x
    go rest true e = let same : y ≡ x = cc in subst P same p.0
    go rest false e = rest e

pub each_true : {X : Type 0} (test : X → Bool) (xs : List X) → list_all test xs ≡ true → AllByRecursion (λ x. test x ≡ true) xs
each_true test [] e = tt
each_true test (x ∷ xs) e = let p = and_parts (test x) (list_all test xs) e in (p.0, each_true test xs p.1)
