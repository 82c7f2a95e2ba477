-- Options, results and choices, taken apart.
use Rattle.std.proofs.Common.{◌≡◌, ℕ, Bool, true, false, cond, List, Option, Some, None, refl, inl, inr}
use Rattle.std.specs.Prelude.{◌⊎◌, option_map, option_and_then}
use Rattle.std.specs.Str.{bytes_eq}
use Rattle.std.proofs.lemmas.Slice.Eq.{bytes_eq-Decides}

pub some_is : {A : Type 0} (x y : A) → Some x ≡ Some y → x ≡ y
some_is x y e = cc

pub none_some : {A : Type 0} (x : A) → None ≡ Some x → ⊥
none_some x e = cc

-- one of two values was taken
pub chosen : {A : Type 0} (b : Bool) (x y z : A) → cond b x y ≡ z → ((b ≡ true) × (x ≡ z)) ⊎ ((b ≡ false) × (y ≡ z))
chosen true x y z e = inl (refl, e)
chosen false x y z e = inr (refl, e)

-- a value that stands under a test
pub guarded : {A : Type 0} (b : Bool) (x y : A) → cond b (Some x) None ≡ Some y → (b ≡ true) × (x ≡ y)
guarded true x y e = (refl, cc)
guarded false x y e = absurd cc

pub and_then_some : {A B : Type 0} (o : Option A) (f : A → Option B) (y : B) → option_and_then f o ≡ Some y → (x : A) × (o ≡ Some x) × (f x ≡ Some y)
and_then_some (Some x) f y e = (x, refl, e)
and_then_some None f y e = absurd cc

pub map_some : {A B : Type 0} (o : Option A) (f : A → B) (y : B) → option_map f o ≡ Some y → (x : A) × (o ≡ Some x) × (f x ≡ y)
map_some (Some x) f y e = (x, refl, cc)
map_some None f y e = absurd cc

-- a word that a test finds to be a name
pub is_name : (word name : List ℕ) → bytes_eq word name ≡ true → word ≡ name
is_name word name e = (bytes_eq-Decides word name).0 e
