-- A pair's position, and the pair there.
use Rattle.std.proofs.Common.{◌≡◌, ◌<◌, ℕ, zero, suc, Bool, true, false, cond, ◌||◌, List, [], ◌∷◌, length, Option, Some, None, refl, ap, sym, subst, ◌∙◌, inl, inr, arith}
use Rattle.std.specs.Prelude.{is_some, slice_get}
use Rattle.std.specs.List.{find, list_any, position, position_or_len}
use Rattle.std.proofs.lemmas.Bool.{cases_lt, lt-ltb, le-ltb}
use Rattle.std.proofs.lemmas.List.Folds.{find_at}
use Rattle.std.proofs.lemmas.Option.{slice_get_past}
use Rattle.sg_psk.specs.Pairs.{IsAt}
use Rattle.sg_psk.specs.declared.pairs.Pair.{Pair}

pub at_position : (p : Pair → Bool) (pairs : List Pair) (r : Option ℕ) → r ≡ position p pairs → IsAt pairs r (find p pairs)
at_position p pairs r is =
    subst (λ r. IsAt pairs r (find p pairs)) (sym is)
    (elim (cases_lt (position_or_len p pairs) (length pairs)) [
      | inl lt ↦ subst (λ b. IsAt pairs (cond b (Some (position_or_len p pairs)) None) (find p pairs)) (sym (lt-ltb (position_or_len p pairs) (length pairs) lt)) (lt, find_at p pairs)
      | inr ge ↦ subst (λ b. IsAt pairs (cond b (Some (position_or_len p pairs)) None) (find p pairs)) (sym (le-ltb (position_or_len p pairs) (length pairs) ge)) (find_at p pairs ∙ slice_get_past pairs (position_or_len p pairs) ge)
    ])

pub same_pair : (p q : Pair) → Some p ≡ Some q → p ≡ q
same_pair p q e = cc

-- whether a position was found is whether a pair passes
found_is : (p : Pair → Bool) (pairs : List Pair) → is_some (find p pairs) ≡ list_any p pairs
found_is p [] = refl
found_is p (x ∷ xs) = by (p x) (found_is p xs)
  where
    by : (b : Bool) → is_some (find p xs) ≡ list_any p xs → is_some (cond b (Some x) (find p xs)) ≡ (b || list_any p xs)
    by true rest = refl
    by false rest = rest

within : (pairs : List Pair) (i : ℕ) → i < length pairs → true ≡ is_some (slice_get pairs i)
within [] i lt = absurd (omega (arith, lt))
within (x ∷ xs) zero lt = refl
within (x ∷ xs) (suc i) lt = within xs i (omega (arith, lt))

pub is_there : (p : Pair → Bool) (pairs : List Pair) (r : Option ℕ) → IsAt pairs r (find p pairs) → is_some r ≡ list_any p pairs
is_there p pairs None at = ap is_some (sym at) ∙ found_is p pairs
is_there p pairs (Some i) at = within pairs i at.0 ∙ ap is_some (sym at.1) ∙ found_is p pairs
