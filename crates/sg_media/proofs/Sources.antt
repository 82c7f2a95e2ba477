-- Sources and indices of what was done.
use Rattle.std.proofs.Common.{◌≡◌, ◌≢◌, ℕ, zero, suc, Bool, true, false, ◌||◌, nat_eq, List, [], ◌∷◌, ◌++◌, map, slice_get, Some, refl, ap, subst, sym, ◌∙◌, inl, inr}
use Rattle.std.proofs.lemmas.Bool.{eq-eqb, ne_eqb, cases_eq, cases_Bool, both_ways, or_left, or_right, or_parts}
use Rattle.std.proofs.lemmas.List.Folds.{list_any-append}
use Rattle.sg_replay.specs.Freshness.{is_in}
use Rattle.sg_session.specs.Session.{Done, source_with, sources_from, sources, indices_of, is_first}

pub sources_from-push : (acc : List ℕ) (done : List Done) (d : Done) → sources_from acc (done ++ d ∷ []) ≡ source_with (sources_from acc done) d.ssrc
sources_from-push acc [] d = refl
sources_from-push acc (x ∷ xs) d = sources_from-push (source_with acc x.ssrc) xs d

pub indices_of-push_same : (done : List Done) (d : Done) → indices_of (done ++ d ∷ []) d.ssrc ≡ indices_of done d.ssrc ++ d.index ∷ []
indices_of-push_same [] d = rw (eq-eqb d.ssrc d.ssrc refl) refl
indices_of-push_same (x ∷ xs) d =
    elim (cases_Bool (nat_eq x.ssrc d.ssrc)) [
      | inl y ↦ rw (y, indices_of-push_same xs d) refl
      | inr n ↦ rw (n, indices_of-push_same xs d) refl
    ]

pub indices_of-push_other : (ssrc : ℕ) (done : List Done) (d : Done) → d.ssrc ≢ ssrc → indices_of (done ++ d ∷ []) ssrc ≡ indices_of done ssrc
indices_of-push_other ssrc [] d ne = rw (ne_eqb d.ssrc ssrc ne) refl
indices_of-push_other ssrc (x ∷ xs) d ne =
    elim (cases_Bool (nat_eq x.ssrc ssrc)) [
      | inl y ↦ rw (y, indices_of-push_other ssrc xs d ne) refl
      | inr n ↦ rw (n, indices_of-push_other ssrc xs d ne) refl
    ]

pub is_in-push : (xs : List ℕ) (x y : ℕ) → is_in (xs ++ x ∷ []) y ≡ (is_in xs y || (nat_eq x y || false))
is_in-push xs x y = list_any-append (λ z. nat_eq z y) xs (x ∷ [])

-- what is in stays in
with_kept : (acc : List ℕ) (s x : ℕ) → is_in acc x ≡ true → is_in (source_with acc s) x ≡ true
with_kept acc s x h =
    elim (cases_Bool (is_in acc s)) [
      | inl y ↦ rw y h
      | inr n ↦ rw n (is_in-push acc s x ∙ or_left (is_in acc x) _ h)
    ]

with_here : (acc : List ℕ) (s : ℕ) → is_in (source_with acc s) s ≡ true
with_here acc s =
    elim (cases_Bool (is_in acc s)) [
      | inl y ↦ rw y y
      | inr n ↦ rw n (is_in-push acc s s ∙ or_right (is_in acc s) _ (or_left _ false (eq-eqb s s refl)))
    ]

kept : (acc : List ℕ) (done : List Done) (x : ℕ) → is_in acc x ≡ true → is_in (sources_from acc done) x ≡ true
kept acc [] x h = h
kept acc (d ∷ ds) x h = kept (source_with acc d.ssrc) ds x (with_kept acc d.ssrc x h)

-- a source that isn't there has no index
pub none_of : (acc : List ℕ) (done : List Done) (ssrc : ℕ) → is_in (sources_from acc done) ssrc ≡ false → indices_of done ssrc ≡ []
none_of acc [] ssrc h = refl
none_of acc (d ∷ ds) ssrc h =
    elim (cases_eq d.ssrc ssrc) [
      | inl same ↦ absurd (both_ways _ h (kept (source_with acc d.ssrc) ds ssrc (subst (λ x. is_in (source_with acc d.ssrc) x ≡ true) same (with_here acc d.ssrc))))
      | inr ne ↦ rw (ne_eqb d.ssrc ssrc ne) (none_of (source_with acc d.ssrc) ds ssrc h)
    ]

-- no number is there twice
abbrev pub Distinct : List ℕ → Type 0
Distinct [] = Unit {0}
Distinct (x ∷ xs) = (is_in xs x ≡ false) × Distinct xs

distinct-push : (xs : List ℕ) (x : ℕ) → Distinct xs → is_in xs x ≡ false → Distinct (xs ++ x ∷ [])
distinct-push [] x d n = (refl, tt)
distinct-push (y ∷ ys) x d n =
    let parts : (nat_eq y x ≡ false) × (is_in ys x ≡ false) = or_parts (nat_eq y x) (is_in ys x) n in
    let apart : nat_eq x y ≡ false = ne_eqb x y (λ e. both_ways _ parts.0 (eq-eqb y x (sym e))) in
    (is_in-push ys x y ∙ rw (d.0, apart) refl, distinct-push ys x d.1 parts.1)

with_distinct : (acc : List ℕ) (s : ℕ) → Distinct acc → Distinct (source_with acc s)
with_distinct acc s d =
    elim (cases_Bool (is_in acc s)) [
      | inl y ↦ rw y d
      | inr n ↦ rw n (distinct-push acc s d n)
    ]

pub distinct_sources : (acc : List ℕ) (done : List Done) → Distinct acc → Distinct (sources_from acc done)
distinct_sources acc [] h = h
distinct_sources acc (d ∷ ds) h = distinct_sources (source_with acc d.ssrc) ds (with_distinct acc d.ssrc h)

module _ {X : Type 0} (f : X → ℕ) where
  pub is_in-map : (xs : List X) (i : ℕ) (x : X) → slice_get xs i ≡ Some x → is_in (map f xs) (f x) ≡ true
  is_in-map [] i x e = cc
  is_in-map (y ∷ ys) zero x e = let same : y ≡ x = cc in or_left _ _ (eq-eqb (f y) (f x) (ap f same))
  is_in-map (y ∷ ys) (suc i) x e = or_right (nat_eq (f y) (f x)) _ (is_in-map ys i x e)

  -- two places with one number are one place
  pub distinct_places : (xs : List X) (i j : ℕ) (x y : X) → Distinct (map f xs) → slice_get xs i ≡ Some x → slice_get xs j ≡ Some y → f x ≡ f y → i ≡ j
  distinct_places [] i j x y d p q e = cc
  distinct_places (z ∷ zs) zero zero x y d p q e = refl
  distinct_places (z ∷ zs) zero (suc j) x y d p q e =
      let same : z ≡ x = cc in
      absurd (both_ways _ d.0 (subst (λ n. is_in (map f zs) n ≡ true) (sym (ap f same ∙ e)) (is_in-map zs j y q)))
  distinct_places (z ∷ zs) (suc i) zero x y d p q e =
      let same : z ≡ y = cc in
      absurd (both_ways _ d.0 (subst (λ n. is_in (map f zs) n ≡ true) (e ∙ sym (ap f same)) (is_in-map zs i x p)))
  distinct_places (z ∷ zs) (suc i) (suc j) x y d p q e = ap suc (distinct_places zs i j x y d.1 p q e)

begins_with : (x : ℕ) (xs : List ℕ) (done : List Done) → slice_get (sources_from (x ∷ xs) done) 0 ≡ Some x
begins_with x xs [] = refl
begins_with x xs (d ∷ ds) =
    elim (cases_Bool (is_in (x ∷ xs) d.ssrc)) [
      | inl y ↦ rw y (begins_with x xs ds)
      | inr n ↦ rw n (begins_with x (xs ++ d.ssrc ∷ []) ds)
    ]

abbrev pub first_is : List ℕ → ℕ → Bool
first_is [] ssrc = true
first_is (x ∷ xs) ssrc = nat_eq x ssrc

first_of : (xs : List ℕ) (x ssrc : ℕ) → slice_get xs 0 ≡ Some x → nat_eq x ssrc ≡ first_is xs ssrc
first_of [] x ssrc e = cc
first_of (y ∷ ys) x ssrc e = let same : y ≡ x = cc in ap (λ n. nat_eq n ssrc) (sym same)

-- the first source is that of the first entry
pub first_source : (done : List Done) (ssrc : ℕ) → is_first done ssrc ≡ first_is (sources done) ssrc
first_source [] ssrc = refl
first_source (d ∷ ds) ssrc = first_of (sources_from (d.ssrc ∷ []) ds) d.ssrc ssrc (begins_with d.ssrc [] ds)
