-- The marks of a row, and the lists that they stand for.
use Rattle.std.proofs.Common.{◌≡◌, ◌≢◌, ℕ, ◌+◌, ◌-◌, ◌%◌, ◌<◌, ◌≤◌, true, false, ◌&&◌, nat_eq, nat_le, List, [], ◌∷◌, ◌++◌, Option, Some, None, arith, refl, ap, subst, ◌∙◌, sym, inl, inr, zero, suc}
use Rattle.std.proofs.Math.Bool.{and-false, and-true}
use Rattle.std.specs.List.{filter, range_with_len}
use Rattle.std.proofs.lemmas.Bool.{cases_Bool, cases_eq, cases_lt, lt-ltb, le-ltb, lt-leb, le-leb, leb-false, ne_eqb, eq-eqb, eqb-true, or_left, or_right}
use Rattle.std.proofs.lemmas.Map.Views.{any-filter_same}
use Rattle.sg_replay.specs.declared.seen.Freshness.TheVariants.{New, Repeat, TooOld}
use Rattle.sg_replay.specs.Freshness.{highest_of, highest_with, is_behind, is_in, freshness}
use Rattle.sg_replay.specs.Marks.{Marks, marks_inside}
use Rattle.sg_replay.specs.Row.{mark_of, mark_up_to}
use Rattle.sg_replay.specs.Seen.{StandsFor, freshness_at}
use Rattle.sg_replay.proofs.DoneLists.{IsAbove, is_in_above, is_in-above_highest, highest_of-push, is_in-push_here, is_in-push_other}

-- ---- ranges
range_has : (a n i : ℕ) → a ≤ i → i < a + n → is_in (range_with_len a n) i ≡ true
range_has a zero i p q = absurd (omega arith)
range_has a (suc n) i p q =
    elim (cases_eq a i) [
      | inl e ↦ or_left (nat_eq a i) _ (eq-eqb a i e)
      | inr ne ↦ or_right (nat_eq a i) _ (range_has (a + 1) n i (omega arith) (omega arith))
    ]

range_lacks : (a n i : ℕ) → a + n ≤ i → is_in (range_with_len a n) i ≡ false
range_lacks a zero i p = refl
range_lacks a (suc n) i p = rw (ne_eqb a i (omega arith), range_lacks (a + 1) n i (omega arith)) refl

-- ---- the marked indices inside the window
marked_among : (row : List ℕ) (i : ℕ) (xs : List ℕ) → is_in (filter (mark_of row) xs) i ≡ (mark_of row i && is_in xs i)
marked_among row i xs =
    any-filter_same (λ x. nat_eq x i) (mark_of row) (mark_of row i) (λ k e. ap (mark_of row) (eqb-true k i e)) xs

inside_here : (window h : ℕ) (row : List ℕ) (i : ℕ) → i ≤ h → h < i + window → is_in (marks_inside window (Some h) row) i ≡ mark_of row i
unfolding marks_inside
inside_here window h row i p q =
    marked_among row i (range_with_len (h + 1 - window) (h + 1 - (h + 1 - window)))
    ∙ ap (λ b. mark_of row i && b) (range_has (h + 1 - window) (h + 1 - (h + 1 - window)) i (omega arith) (omega arith))
    ∙ and-true (mark_of row i)

inside_above : (window h : ℕ) (row : List ℕ) (i : ℕ) → h < i → is_in (marks_inside window (Some h) row) i ≡ false
unfolding marks_inside
inside_above window h row i p =
    marked_among row i (range_with_len (h + 1 - window) (h + 1 - (h + 1 - window)))
    ∙ ap (λ b. mark_of row i && b) (range_lacks (h + 1 - window) (h + 1 - (h + 1 - window)) i (omega arith))
    ∙ and-false (mark_of row i)

-- ---- what a `Seen` answers
-- what a `Seen` shows of its fields
abbrev pub shown : ℕ → Option ℕ → List ℕ → Marks
shown window highest row = record { window = window; highest = highest; inside = marks_inside window highest row }

none_new : (window : ℕ) (row : List ℕ) (i : ℕ) → New ≡ freshness_at (shown window None row) i
unfolding marks_inside
none_new window row i = refl

pub test_empty : (window : ℕ) (o : Option ℕ) (row : List ℕ) (i : ℕ) → o ≡ None → New ≡ freshness_at (shown window o row) i
test_empty window o row i e = rw e (none_new window row i)

pub test_above : (window : ℕ) (o : Option ℕ) (row : List ℕ) (h i : ℕ) → o ≡ Some h → h < i → 0 < window → New ≡ freshness_at (shown window o row) i
test_above window o row h i e p w = rw (e, lt-leb (i + window) h (omega arith), inside_above window h row i p) refl

pub test_marked : (window : ℕ) (o : Option ℕ) (row : List ℕ) (h i : ℕ) → o ≡ Some h → i ≤ h → h < i + window → mark_of row i ≡ true → Repeat ≡ freshness_at (shown window o row) i
test_marked window o row h i e p q m = rw (e, lt-leb (i + window) h q, inside_here window h row i p q, m) refl

pub test_unmarked : (window : ℕ) (o : Option ℕ) (row : List ℕ) (h i : ℕ) → o ≡ Some h → i ≤ h → h < i + window → mark_of row i ≡ false → New ≡ freshness_at (shown window o row) i
test_unmarked window o row h i e p q m = rw (e, lt-leb (i + window) h q, inside_here window h row i p q, m) refl

-- What the marks say of an index is what the list says.
pub freshness_stands : (seen : Marks) (window : ℕ) (done : List ℕ) (i : ℕ) → StandsFor seen window done → freshness_at seen i ≡ freshness window done i
freshness_stands seen window done i s =
    elim (cases_Bool (is_behind window (highest_of done) i)) [
      | inl behind ↦ rw (s.same_window, s.same_highest, behind) refl
      | inr reached ↦ rw (s.same_window, s.same_highest, reached, s.same_inside i reached) refl
    ]

-- ---- a mark more
reached_by : (window : ℕ) (o : Option ℕ) (inside : List ℕ) (i : ℕ) → window ≤ 1024
    → freshness_at (record { window = window; highest = o; inside = inside }) i ≡ New → highest_with o i < i + 1024
reached_by window None inside i small e = omega arith
reached_by window (Some h) inside i small e =
    elim (cases_Bool (nat_le (i + window) h)) [
      | inl behind ↦ (let no : TooOld ≡ New = rw behind at e in cc)
      | inr reached ↦ (let inside_it : h < i + window = leb-false (i + window) h reached in omega arith)
    ]

-- An index that is new isn't a whole row behind.
pub new_reached : (window : ℕ) (o : Option ℕ) (row : List ℕ) (i : ℕ) → window ≤ 1024 → freshness_at (shown window o row) i ≡ New → highest_with o i < i + 1024
new_reached window o row i small e = reached_by window o (marks_inside window o row) i small e

index_below : (o : Option ℕ) (i : ℕ) → i ≤ highest_with o i
index_below None i = omega arith
index_below (Some h) i = omega arith

-- two indices of one row's length have places of their own
pub places_apart : (o : Option ℕ) (i j : ℕ) → highest_with o j < j + 1024 → highest_with o j < i + 1024 → i ≤ highest_with o j → i ≢ j → i % 1024 ≢ j % 1024
places_apart o i j p q r ne = let s : j ≤ highest_with o j = index_below o j in omega arith

pub mark_up_to-above : (h : ℕ) (row : List ℕ) (i : ℕ) → h < i → mark_up_to (Some h) row i ≡ false
mark_up_to-above h row i p = rw (lt-ltb h i p) refl

mark_up_to-below : (h : ℕ) (row : List ℕ) (i : ℕ) → i ≤ h → mark_up_to (Some h) row i ≡ mark_of row i
mark_up_to-below h row i p = rw (le-ltb h i p) refl

old_mark : (width window : ℕ) (o : Option ℕ) (row done : List ℕ) (index i : ℕ) → StandsFor (shown width o row) window done
    → highest_with o index < i + window → mark_up_to o row i ≡ is_in done i
old_mark width window None row done index i s p = sym (is_in_above done i (subst (IsAbove i) s.same_highest tt))
old_mark width window (Some h) row done index i s p =
    elim (cases_lt h i) [
      | inl above ↦ mark_up_to-above h row i above ∙ sym (is_in-above_highest done h i (sym s.same_highest) above)
      | inr below ↦
          (let reached : is_behind window (highest_of done) i ≡ false = rw (← s.same_highest) (lt-leb (i + window) h (omega arith)) in
          let wide : width ≡ window = s.same_window in
          mark_up_to-below h row i below ∙ sym (inside_here width h row i below (omega arith)) ∙ s.same_inside i reached)
    ]

new_mark : (width window : ℕ) (o : Option ℕ) (row row' done : List ℕ) (index i : ℕ) → StandsFor (shown width o row) window done → width ≤ 1024
    → mark_of row' index ≡ true
    → ((j : ℕ) → highest_with o index < j + 1024 → j ≤ highest_with o index → j ≢ index → mark_of row' j ≡ mark_up_to o row j)
    → highest_with o index < i + window → i ≤ highest_with o index → mark_of row' i ≡ is_in (done ++ index ∷ []) i
new_mark width window o row row' done index i s small here others reached below =
    let wide : width ≡ window = s.same_window in
    elim (cases_eq i index) [
      | inl same ↦ rw same (here ∙ sym (is_in-push_here done index))
      | inr ne ↦
          others i (omega arith) below ne
          ∙ old_mark width window o row done index i s reached
          ∙ sym (is_in-push_other done index i ne)
    ]

pub stands_push : (width window : ℕ) (o : Option ℕ) (row row' done : List ℕ) (index : ℕ) → StandsFor (shown width o row) window done → width ≤ 1024
    → mark_of row' index ≡ true
    → ((j : ℕ) → highest_with o index < j + 1024 → j ≤ highest_with o index → j ≢ index → mark_of row' j ≡ mark_up_to o row j)
    → StandsFor (shown width (Some (highest_with o index)) row') window (done ++ index ∷ [])
stands_push width window o row row' done index s small here others =
    let top : Some (highest_with o index) ≡ highest_of (done ++ index ∷ []) =
    ap (λ t. Some (highest_with t index)) s.same_highest ∙ sym (highest_of-push done index) in
    record {
      same_window = s.same_window;
      same_highest = top;
      same_inside = λ i e.
          let reached : highest_with o index < i + window = leb-false (i + window) (highest_with o index) (rw (← top) at e) in
          let wide : width ≡ window = s.same_window in
          elim (cases_lt (highest_with o index) i) [
            | inl above ↦ inside_above width (highest_with o index) row' i above ∙ sym (is_in-above_highest (done ++ index ∷ []) (highest_with o index) i (sym top) above)
            | inr below ↦
                inside_here width (highest_with o index) row' i below (omega arith)
                ∙ new_mark width window o row row' done index i s small here others reached below
          ];
    }

pub stands_empty : (window : ℕ) (row : List ℕ) → StandsFor (shown window None row) window []
unfolding marks_inside
stands_empty window row = record { same_window = refl; same_highest = refl; same_inside = λ i e. refl }
