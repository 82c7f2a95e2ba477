-- The walks over media, one medium further: what a loop keeps that has done the first i of them.
use Rattle.std.proofs.Common.{◌≡◌, ℕ, zero, suc, ◌+◌, ◌<◌, Bool, List, [], ◌∷◌, ◌++◌, length, get_or, drop, Option, Result, Ok, Err, refl, sym, ap, ◌∙◌, arith, append_assoc, ◌≤◌, ◌^◌, true, false, cond, ◌&&◌, Some, is_none, length-append, map, take, add-one}
use Rattle.std.specs.List.{flat_map}
use Rattle.std.specs.Prelude.{slice_set}
use Rattle.sg_base.specs.declared.addresses.Side.{Side}
use Rattle.sg_base.specs.declared.faults.Refusal.{Refusal}
use Rattle.sg_sdp.specs.Descriptions.{medium_lines}
use Rattle.sg_sdp.specs.declared.medium.Medium as descriptions
use Rattle.sg_session.specs.Stages.{after_ok}
use Rattle.sg_agreement.specs.Described.{unaddressed}
use Rattle.sg_agreement.specs.EachMedium.{if_active, each_active, if_kept, each_kept}
use Rattle.sg_agreement.specs.Sides.{is_active}
use Rattle.sg_agreement.specs.Walks.{prefixed}

-- a value that is there is put before the others
prefixed_next : {X E : Type 0} (done : List X) (r : Result X E) (rest : Result (List X) E)
    → prefixed done (after_ok r (λ x. after_ok rest (λ xs. Ok (x ∷ xs)))) ≡ after_ok r (λ x. prefixed (done ++ x ∷ []) rest)
prefixed_next done (Ok x) (Ok xs) = ap Ok (sym (append_assoc done (x ∷ []) xs))
prefixed_next done (Ok x) (Err c) = refl
prefixed_next done (Err c) rest = refl

pub split_at : {A : Type 0} (i : ℕ) (m : A) (ms : List A) → i < length ms → get_or ms i m ≡ m → drop i ms ≡ m ∷ drop (i + 1) ms
split_at i m [] lt at = absurd (omega (arith, lt))
split_at zero m (x ∷ ms) lt at = ap (λ x. x ∷ ms) at
split_at (suc i) m (x ∷ ms) lt at =
    let one : suc i + 1 ≡ suc (i + 1) = omega arith in
    split_at i m ms (omega (arith, lt)) at ∙ ap (λ n. m ∷ drop n (x ∷ ms)) (sym one)

module _ {X : Type 0} (side : Side) (value : ℕ → descriptions.Medium → Result X Refusal) where
  pub active_next : (done : List (Option X)) (k : ℕ) (m : descriptions.Medium) (ms : List descriptions.Medium)
      → prefixed done (each_active side value k (m ∷ ms)) ≡ after_ok (if_active (is_active side m) (value k m)) (λ x. prefixed (done ++ x ∷ []) (each_active side value (k + 1) ms))
  active_next done k m ms = prefixed_next done (if_active (is_active side m) (value k m)) (each_active side value (k + 1) ms)

  -- the media from the i-th on
  pub active_at : (done : List (Option X)) (i : ℕ) (m : descriptions.Medium) (ms : List descriptions.Medium) → i < length ms → get_or ms i m ≡ m
      → prefixed done (each_active side value i (drop i ms)) ≡ after_ok (if_active (is_active side m) (value i m)) (λ x. prefixed (done ++ x ∷ []) (each_active side value (i + 1) (drop (i + 1) ms)))
  active_at done i m ms lt at = ap (λ l. prefixed done (each_active side value i l)) (split_at i m ms lt at) ∙ active_next done i m (drop (i + 1) ms)

module _ {X Y : Type 0} (value : ℕ → X → descriptions.Medium → Result Y Refusal) where
  pub kept_next : (done : List (Option Y)) (k : ℕ) (active : Bool) (others : List Bool) (x : Option X) (xs : List (Option X)) (n : descriptions.Medium) (ns : List descriptions.Medium)
      → prefixed done (each_kept value k (active ∷ others) (x ∷ xs) (n ∷ ns)) ≡ after_ok (if_kept active x (λ x. value k x n)) (λ y. prefixed (done ++ y ∷ []) (each_kept value (k + 1) others xs ns))
  kept_next done k active others x xs n ns = prefixed_next done (if_kept active x (λ x. value k x n)) (each_kept value (k + 1) others xs ns)

-- ---- one medium further in a walk that counts lines

-- what is left of the walk
pub record IsLeft (side : Side) (first : ℕ) (media : List descriptions.Medium) (line i : ℕ) : Type 0 where
  pub same : unaddressed side line (drop i media) ≡ unaddressed side first media
  pub fits : line + length (flat_map medium_lines (drop i media)) ≤ 2 ^ 31

module _ (side : Side) (first : ℕ) (media : List descriptions.Medium) (line i : ℕ) (m : descriptions.Medium) (left : IsLeft side first media line i) (lt : i < length media) (at : m ≡ get_or media i m) where
  here : unaddressed side line (m ∷ drop (i + 1) media) ≡ unaddressed side first media
  here = ap (unaddressed side line) (sym (split_at i m media lt (sym at))) ∙ left.same

  pub room : line + (1 + length m.lines) + length (flat_map medium_lines (drop (i + 1) media)) ≤ 2 ^ 31
  room =
      let size = length-append (medium_lines m) (flat_map medium_lines (drop (i + 1) media)) in
      let whole = ap (λ ms. length (flat_map medium_lines ms)) (split_at i m media lt (sym at)) in
      let low = left.fits in
      omega (arith, size, whole, low)

  pub found : (is_active side m && is_none m.address) ≡ true → Some line ≡ unaddressed side first media
  found is = sym (λ k. cond (is k) (Some line) (unaddressed side (line + 1 + length m.lines) (drop (i + 1) media))) ∙ here

  pub further : (is_active side m && is_none m.address) ≡ false → IsLeft side first media (line + (1 + length m.lines)) (i + 1)
  further is = record {
    same = ap (λ n. unaddressed side n (drop (i + 1) media)) (omega arith)
        ∙ sym (λ k. cond (is k) (Some line) (unaddressed side (line + 1 + length m.lines) (drop (i + 1) media))) ∙ here;
    fits = room;
  }

-- ---- a loop that changes each element of a list

module _ {A : Type 0} (f : A → A) where
  same_at : (xs : List A) (i : ℕ) (d : A) → i < length xs → get_or (map f (take i xs) ++ drop i xs) i d ≡ get_or xs i d
  same_at [] i d lt = absurd (omega arith)
  same_at (x ∷ xs) zero d lt = refl
  same_at (x ∷ xs) (suc i) d lt = same_at xs i d (omega arith)

  set_at : (xs : List A) (i : ℕ) (d : A) → i < length xs → slice_set (map f (take i xs) ++ drop i xs) i (f (get_or xs i d)) ≡ map f (take (suc i) xs) ++ drop (suc i) xs
  set_at [] i d lt = absurd (omega arith)
  set_at (x ∷ xs) zero d lt = refl
  set_at (x ∷ xs) (suc i) d lt = ap (λ (l : List A). f x ∷ l) (set_at xs i d (omega arith))

  pub fills : (xs now : List A) (i : ℕ) (d v : A) → i < length xs → now ≡ map f (take i xs) ++ drop i xs → v ≡ f (get_or now i d)
      → slice_set now i v ≡ map f (take (i + 1) xs) ++ drop (i + 1) xs
  fills xs now i d v inside e w =
      let value : v ≡ f (get_or xs i d) = w ∙ ap (λ (l : List A). f (get_or l i d)) e ∙ ap f (same_at xs i d inside) in
      rw (value, e, add-one) (set_at xs i d inside)
