-- Lists of the indices done, and their highest.
use Rattle.std.proofs.Common.{◌≡◌, ◌≢◌, ℕ, ◌<◌, true, false, ◌||◌, nat_eq, List, [], ◌∷◌, ◌++◌, Option, Some, None, arith, refl, ap, subst, ◌∙◌, sym, ◌⊎◌, inl, inr, max}
use Rattle.std.proofs.lemmas.Bool.{cases_Bool, cases_lt, ne_eqb, eq-eqb, or_left, or_right}
use Rattle.std.proofs.Math.Bool.{or-false}
use Rattle.std.proofs.lemmas.List.Folds.{list_any-append}
use Rattle.sg_replay.specs.declared.seen.Freshness.TheVariants.{New, Repeat, TooOld}
use Rattle.sg_replay.specs.Freshness.{highest_of, highest_with, is_behind, is_in, freshness}

-- an index above the highest, where there is one
abbrev pub IsAbove : ℕ → Option ℕ → Type 0
IsAbove i None = Unit {0}
IsAbove i (Some h) = h < i

above_parts : (o : Option ℕ) (x i : ℕ) → highest_with o x < i → (x < i) × IsAbove i o
above_parts None x i a = (a, tt)
above_parts (Some h) x i a = (omega arith, omega arith)

pub is_in_above : (done : List ℕ) (i : ℕ) → IsAbove i (highest_of done) → is_in done i ≡ false
is_in_above [] i a = refl
is_in_above (x ∷ xs) i a =
    let parts : (x < i) × IsAbove i (highest_of xs) = above_parts (highest_of xs) x i a in
    let ne : x ≢ i = omega (arith, parts.0) in
    rw (ne_eqb x i ne, is_in_above xs i parts.1) refl

some_injective : (a b : ℕ) → Some a ≡ Some b → a ≡ b
some_injective a b e = cc

pub is_in-above_highest : (done : List ℕ) (h i : ℕ) → highest_of done ≡ Some h → h < i → is_in done i ≡ false
is_in-above_highest done h i e p = is_in_above done i (subst (IsAbove i) (sym e) p)

with_with : (o : Option ℕ) (x i : ℕ) → highest_with (Some (highest_with o i)) x ≡ highest_with (Some (highest_with o x)) i
with_with None x i = omega arith
with_with (Some h) x i = omega arith

pub highest_of-push : (done : List ℕ) (i : ℕ) → highest_of (done ++ i ∷ []) ≡ Some (highest_with (highest_of done) i)
highest_of-push [] i = refl
highest_of-push (x ∷ xs) i = ap (λ o. Some (highest_with o x)) (highest_of-push xs i) ∙ ap Some (with_with (highest_of xs) x i)

pub highest_of-none : (done : List ℕ) → highest_of done ≡ None → done ≡ []
highest_of-none [] e = refl
highest_of-none (x ∷ xs) e = cc

highest_here : (o : Option ℕ) (x h : ℕ) → Some (highest_with o x) ≡ Some h → (x ≡ h) ⊎ (o ≡ Some h)
highest_here None x h e = inl (some_injective x h e)
highest_here (Some t) x h e =
    let m : max t x ≡ h = some_injective _ h e in
    elim (cases_lt x t) [
      | inl below ↦ (let same : t ≡ h = omega arith in inr (ap Some same))
      | inr above ↦ inl (omega arith)
    ]

pub is_in-highest : (done : List ℕ) (h : ℕ) → highest_of done ≡ Some h → is_in done h ≡ true
is_in-highest [] h e = cc
is_in-highest (x ∷ xs) h e =
    elim (highest_here (highest_of xs) x h e) [
      | inl same ↦ or_left (nat_eq x h) _ (eq-eqb x h same)
      | inr below ↦ or_right (nat_eq x h) _ (is_in-highest xs h below)
    ]

pub is_in-push : (done : List ℕ) (index i : ℕ) → is_in (done ++ index ∷ []) i ≡ (is_in done i || (nat_eq index i || false))
is_in-push done index i = list_any-append (λ x. nat_eq x i) done (index ∷ [])

pub is_in-push_here : (done : List ℕ) (index : ℕ) → is_in (done ++ index ∷ []) index ≡ true
is_in-push_here done index =
    is_in-push done index index ∙ or_right (is_in done index) _ (or_left _ false (eq-eqb index index refl))

pub is_in-push_other : (done : List ℕ) (index i : ℕ) → i ≢ index → is_in (done ++ index ∷ []) i ≡ is_in done i
is_in-push_other done index i ne =
    is_in-push done index i ∙ rw (ne_eqb index i (λ e. ne (sym e))) (or-false (is_in done i))

-- what is new isn't in the list
pub new_not_in : (window : ℕ) (done : List ℕ) (i : ℕ) → freshness window done i ≡ New → is_in done i ≡ false
new_not_in window done i e =
    elim (cases_Bool (is_behind window (highest_of done) i)) [
      | inl behind ↦ (let no : TooOld ≡ New = rw behind at e in cc)
      | inr reached ↦
          (elim (cases_Bool (is_in done i)) [
            | inl there ↦ (let no : Repeat ≡ New = rw (reached, there) at e in cc)
            | inr absent ↦ absent
          ])
    ]
