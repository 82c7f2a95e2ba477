-- Cases on what a reader answered.
use Rattle.std.proofs.Common.{◌≡◌, ℕ, zero, suc, ◌<◌, Bool, true, false, cond, eqb, List, [], ◌∷◌, ◌++◌, Option, Some, None, Result, Ok, Err, refl, ap, arith}
use Rattle.std.specs.Prelude.{is_some, is_none}
use Rattle.std.specs.List.{AllByRecursion}
use Rattle.std.proofs.lemmas.Bool.{eqb-false}
use Rattle.sg_base.specs.declared.SdpFault.{SdpFault}
use Rattle.sg_sdp.specs.Reading.{◌>>=◌, at_line}

abbrev pub done : {A E : Type 0} → A → Result A E
done x = Ok x

pub bind_ok : {A B F : Type 0} (r : Result A F) (f : A → Result B F) (y : B) → (r >>= f) ≡ Ok y → (x : A) × (r ≡ Ok x) × (f x ≡ Ok y)
bind_ok (Ok x) f y e = (x, refl, e)
bind_ok (Err d) f y e = absurd cc

pub at_line_ok : {X : Type 0} (n : ℕ) (r : Result X SdpFault) (x : X) → at_line n r ≡ Ok x → r ≡ Ok x
at_line_ok n (Ok y) x e = let f : y ≡ x = cc in ap Ok f
at_line_ok n (Err d) x e = absurd cc

pub ok_is : {A E : Type 0} (x y : A) → done {E = E} x ≡ done y → x ≡ y
ok_is x y e = cc

pub err_ok : {A E : Type 0} (d : E) (x : A) → Err d ≡ done x → ⊥
err_ok d x e = cc

pub guard_false : {A E : Type 0} (b : Bool) (d : E) (x y : A) → cond b (Err d) (Ok x) ≡ Ok y → (b ≡ false) × (x ≡ y)
guard_false true d x y e = absurd cc
guard_false false d x y e = (refl, cc)

pub none_is : {A : Type 0} (o : Option A) → is_some o ≡ true → is_none o ≡ false
none_is (Some x) e = refl
none_is None e = absurd cc

pub none_some : {A : Type 0} (o : Option A) → is_none o ≡ false → is_some o ≡ true
none_some (Some x) e = refl
none_some None e = absurd cc

pub above_zero : (n : ℕ) → eqb n 0 ≡ false → 0 < n
above_zero zero e = absurd (eqb-false 0 0 e refl)
above_zero (suc n) e = omega arith

pub all_append : {A : Type 0} (P : A → Type 0) (xs ys : List A) → AllByRecursion P xs → AllByRecursion P ys → AllByRecursion P (xs ++ ys)
all_append P [] ys p q = q
all_append P (x ∷ xs) ys p q = (p.0, all_append P xs ys p.1 q)
