-- A text cut at the first octet of a value.
use Rattle.std.proofs.Common.{◌≡◌, ℕ, suc, ◌+◌, ◌<◌, ◌≤◌, true, false, eqb, List, [], ◌∷◌, ◌++◌, length, take, drop, Option, Some, None, refl, ap, subst, arith, inl, inr, add-one, ◌-◌}
use Rattle.std.specs.Prelude.{option_map, unwrap_or}
use Rattle.std.specs.List.{All, position, position_or_len}
use Rattle.std.proofs.lemmas.Bool.{cases_Bool, eqb-true, eq-eqb, le-ltb, lt-ltb, cases_lt}
use Rattle.std.proofs.Math.Seq.{take-length}
use Rattle.std.proofs.lemmas.List.{length-drop}
use Rattle.std.proofs.lemmas.List.Elements.{All-from_recursion}
use Rattle.sg_base.specs.Fields.{cut_at, Lacks}

-- a text of two parts that the octet doesn't stand in
pub lacks_append : (c : ℕ) (x y : List ℕ) → Lacks c x → Lacks c y → Lacks c (x ++ y)
lacks_append c [] y p q = q
lacks_append c (d ∷ x) y p q = (p.0, lacks_append c x y p.1 q)

pub lacks_all : (c : ℕ) (t : List ℕ) → Lacks c t → All (λ x. eqb x c ≡ false) t
lacks_all c t h = All-from_recursion (λ x. eqb x c ≡ false) t h

abbrev pub cut_by : List ℕ → Option ℕ → Option (List ℕ × List ℕ)
cut_by t place = option_map (λ i. (take i t, drop (i + 1) t)) place

-- by the place of the first c, which is the length where there is none
abbrev place : ℕ → List ℕ → ℕ
place c t = position_or_len (λ b. eqb b c) t

place_hit : (c x : ℕ) (xs : List ℕ) → eqb x c ≡ true → place c (x ∷ xs) ≡ 0
place_hit c x xs e = rw e refl

place_miss : (c x : ℕ) (xs : List ℕ) → eqb x c ≡ false → place c (x ∷ xs) ≡ suc (place c xs)
place_miss c x xs e = rw e (omega arith)

cut_found : (c : ℕ) (t : List ℕ) → place c t < length t → cut_at c t ≡ Some (take (place c t) t, drop (place c t + 1) t)
unfolding cut_at
cut_found c [] lt = absurd (omega arith)
cut_found c (x ∷ xs) lt =
    elim (cases_Bool (eqb x c)) [
      | inl e ↦ rw (place_hit c x xs e, e) refl
      | inr e ↦
          let k : place c xs < length xs = omega (arith, place_miss c x xs e) in
          let sum : suc (place c xs) + 1 ≡ suc (suc (place c xs)) = omega arith in
          rw (place_miss c x xs e, e, cut_found c xs k, sum, add-one) refl
    ]

cut_lost : (c : ℕ) (t : List ℕ) → length t ≤ place c t → cut_at c t ≡ None
unfolding cut_at
cut_lost c [] le = refl
cut_lost c (x ∷ xs) le =
    elim (cases_Bool (eqb x c)) [
      | inl e ↦ absurd (omega (arith, place_hit c x xs e))
      | inr e ↦ let k : length xs ≤ place c xs = omega (arith, place_miss c x xs e) in rw (e, cut_lost c xs k) refl
    ]

pub cut_at-position : (c : ℕ) (t : List ℕ) → cut_at c t ≡ cut_by t (position (λ b. eqb b c) t)
cut_at-position c t =
    elim (cases_lt (place c t) (length t)) [
      | inl lt ↦ rw (lt-ltb (place c t) (length t) lt) (cut_found c t lt)
      | inr le ↦ rw (le-ltb (place c t) (length t) le) (cut_lost c t le)
    ]

pub cut_again : (c : ℕ) (x y : List ℕ) → Lacks c x → cut_at c (x ++ c ∷ y) ≡ Some (x, y)
unfolding cut_at
cut_again c [] y lacks = rw (eq-eqb c c refl) refl
cut_again c (x ∷ xs) y lacks = rw (lacks.0, cut_again c xs y lacks.1) refl

later : (c z : ℕ) (zs x y : List ℕ) (o : Option (List ℕ × List ℕ)) → cut_at c zs ≡ o → option_map {U = List ℕ × List ℕ} (λ p. (z ∷ p.0, p.1)) o ≡ Some (x, y)
    → ((v w : List ℕ) → cut_at c zs ≡ Some (v, w) → zs ≡ v ++ c ∷ w) → z ∷ zs ≡ x ++ c ∷ y
later c z zs x y None was f rest = absurd cc
later c z zs x y (Some p) was f rest =
    let x-is : z ∷ p.0 ≡ x = ap (λ (o : Option (List ℕ × List ℕ)). (unwrap_or o (x, y)).0) f in
    let y-is : p.1 ≡ y = ap (λ (o : Option (List ℕ × List ℕ)). (unwrap_or o (x, y)).1) f in
    rw (← x-is, ← y-is) (ap (λ (l : List ℕ). z ∷ l) (rest p.0 p.1 was))

lacks_later : (c z : ℕ) (zs x y : List ℕ) (o : Option (List ℕ × List ℕ)) → cut_at c zs ≡ o → option_map {U = List ℕ × List ℕ} (λ p. (z ∷ p.0, p.1)) o ≡ Some (x, y)
    → eqb z c ≡ false → ((v w : List ℕ) → cut_at c zs ≡ Some (v, w) → Lacks c v) → Lacks c x
lacks_later c z zs x y None was f other rest = absurd cc
lacks_later c z zs x y (Some p) was f other rest =
    let x-is : z ∷ p.0 ≡ x = ap (λ (o : Option (List ℕ × List ℕ)). (unwrap_or o (x, y)).0) f in
    subst (Lacks c) x-is (other, rest p.0 p.1 was)

-- the octet doesn't stand before the cut
pub cut_lacks : (c : ℕ) (t x y : List ℕ) → cut_at c t ≡ Some (x, y) → Lacks c x
unfolding cut_at
cut_lacks c [] x y e = absurd cc
cut_lacks c (z ∷ zs) x y e =
    elim (cases_Bool (eqb z c)) [
      | inl h ↦
          let f : Some ([], zs) ≡ Some (x, y) = rw h at e in
          let x-is : [] ≡ x = ap (λ (o : Option (List ℕ × List ℕ)). (unwrap_or o (x, y)).0) f in
          subst (Lacks c) x-is tt
      | inr h ↦ let f : option_map {U = List ℕ × List ℕ} (λ p. (z ∷ p.0, p.1)) (cut_at c zs) ≡ Some (x, y) = rw h at e in lacks_later c z zs x y (cut_at c zs) refl f h (λ v w. cut_lacks c zs v w)
    ]

pub cut_takes : (c : ℕ) (t x y : List ℕ) → cut_at c t ≡ Some (x, y) → t ≡ x ++ c ∷ y
unfolding cut_at
cut_takes c [] x y e = absurd cc
cut_takes c (z ∷ zs) x y e =
    elim (cases_Bool (eqb z c)) [
      | inl h ↦
          let f : Some ([], zs) ≡ Some (x, y) = rw h at e in
          let z-is : z ≡ c = eqb-true z c h in
          let x-is : [] ≡ x = ap (λ (o : Option (List ℕ × List ℕ)). (unwrap_or o (x, y)).0) f in
          let y-is : zs ≡ y = ap (λ (o : Option (List ℕ × List ℕ)). (unwrap_or o (x, y)).1) f in
          rw (← x-is, ← y-is, z-is) refl
      | inr h ↦ let f : option_map {U = List ℕ × List ℕ} (λ p. (z ∷ p.0, p.1)) (cut_at c zs) ≡ Some (x, y) = rw h at e in later c z zs x y (cut_at c zs) refl f (λ v w. cut_takes c zs v w)
    ]

-- as the code cuts
pub cut_here : (t : List ℕ) (i : ℕ) (o : Option (List ℕ × List ℕ)) → o ≡ cut_by t (Some i) → Some (take i t, take (length t - (i + 1)) (drop (i + 1) t)) ≡ o
cut_here t i o e = rw (e, ← length-drop (i + 1) t, take-length (drop (i + 1) t)) refl
