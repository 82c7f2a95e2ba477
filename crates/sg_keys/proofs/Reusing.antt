-- One key more in the search for a key that is reused.
use Rattle.std.proofs.Common.{◌≡◌, ℕ, ◌+◌, ◌<◌, ◌≤◌, Bool, List, [], ◌∷◌, ◌++◌, map, length, Option, Some, None, Result, Ok, Err, refl, arith, ap, sym, ◌∙◌, inl, inr, length-append, append_assoc, add-zero, zero-add}
use Rattle.std.specs.Prelude.{nat_lt}
use Rattle.std.specs.Option.{option_or}
use Rattle.std.proofs.lemmas.Bool.{cases_Bool, lt-ltb, le-ltb}
use Rattle.std.proofs.lemmas.List.{length-map, map-append, append-nil}
use Rattle.sg_base.specs.Keys.{Master}
use Rattle.sg_base.specs.declared.faults.Refusal.{Refusal}
use Rattle.sg_base.specs.declared.faults.Refusal.TheVariants as refusal
use Rattle.sg_base.specs.declared.keys.SessionKeys.{SessionKeys}
use Rattle.sg_session.specs.Stages.{after_ok, stop_if}
use Rattle.sg_session.specs.Ring.{RingKey, derived, with_session_keys, keys_clash, key_clashes_with_itself, first_clash_by, with_key_by, with_keys_by, install_by}
use Rattle.sg_keys.specs.Reused.{given, first_from, own_if, reused_number, reused}

first_from-append : (n : ℕ) (xs ys : List RingKey) (k : RingKey) → first_from n (xs ++ ys) k ≡ option_or (first_from n xs k) (first_from (n + length xs) ys k)
first_from-append n [] ys k = ap (λ m. first_from m ys k) (sym (add-zero n))
first_from-append n (x ∷ xs) ys k =
    elim (cases_Bool (keys_clash x k)) [
      | inl y ↦ rw y refl
      | inr m ↦ rw m (first_from-append (n + 1) xs ys k ∙ ap (λ j. option_or (first_from (n + 1) xs k) (first_from j ys k)) (omega arith))
    ]

-- what is told after the keys of the ring and some more
told_apart : (key : RingKey) (ring before : List RingKey) → reused_number (ring ++ before) key
    ≡ option_or (option_or (first_from 0 ring key) (first_from (length ring) before key)) (own_if (key_clashes_with_itself key) (length ring + length before))
told_apart key ring before = rw (first_from-append 0 ring before key, zero-add (length ring), length-append ring before) refl

pub told_says : (key : RingKey) (ring before : List RingKey) (a b : Option ℕ) (t : Bool) → a ≡ first_from 0 ring key → b ≡ first_from (length ring) before key → t ≡ key_clashes_with_itself key
    → option_or (option_or a b) (own_if t (length ring + length before)) ≡ reused_number (ring ++ before) key
told_says key ring before a b t p q r = rw (p, q, r) (sym (told_apart key ring before))

-- a ring of whatever has keys
module _ {X : Type 0} (key_of : X → RingKey) where
  abbrev keys_of : List X → List RingKey
  keys_of ring = map key_of ring

  -- the definition's search is this one
  first_is : (n : ℕ) (ring : List X) (k : RingKey) → first_clash_by key_of n ring k ≡ first_from n (keys_of ring) k
  first_is n [] k = refl
  first_is n (r ∷ ring) k =
      elim (cases_Bool (keys_clash (key_of r) k)) [
        | inl y ↦ rw y refl
        | inr x ↦ rw x (first_is (n + 1) ring k)
      ]

  abbrev pub answer_by : Option ℕ → List X → Result (List X) Refusal
  answer_by (Some n) ring = Err (refusal.KeyReused n)
  answer_by None ring = Ok ring

  with_key_is : (ring : List X) (k : X) (o : Option ℕ) → with_key_by key_of ring k o ≡ answer_by (option_or o (own_if (key_clashes_with_itself (key_of k)) (length ring))) (ring ++ k ∷ [])
  with_key_is ring k (Some n) = refl
  with_key_is ring k None =
      elim (cases_Bool (key_clashes_with_itself (key_of k))) [
        | inl y ↦ rw y refl
        | inr x ↦ rw x refl
      ]

  one_told : (ring : List X) (k : X) → with_key_by key_of ring k (first_clash_by key_of 0 ring (key_of k)) ≡ answer_by (reused_number (keys_of ring) (key_of k)) (ring ++ k ∷ [])
  one_told ring k = with_key_is ring k (first_clash_by key_of 0 ring (key_of k)) ∙ rw (first_is 0 ring (key_of k), sym (length-map ring key_of)) refl

  answer_then : (o rest : Option ℕ) (ring all : List X) (f : List X → Result (List X) Refusal) → f ring ≡ answer_by rest all → after_ok (answer_by o ring) f ≡ answer_by (option_or o rest) all
  answer_then (Some n) rest ring all f e = refl
  answer_then None rest ring all f e = e

  with_keys_is : (ring keys : List X) → with_keys_by key_of ring keys ≡ answer_by (reused (keys_of ring) (keys_of keys)) (ring ++ keys)
  with_keys_is ring [] = ap (λ r. let x : Result (List X) Refusal = Ok r in x) (sym (append-nil ring))
  with_keys_is ring (k ∷ ks) =
      ap (λ r. after_ok r (λ ring'. with_keys_by key_of ring' ks)) (one_told ring k)
      ∙ answer_then (reused_number (keys_of ring) (key_of k)) (reused (keys_of ring ++ key_of k ∷ []) (keys_of ks)) (ring ++ k ∷ []) (ring ++ k ∷ ks) (λ ring'. with_keys_by key_of ring' ks)
      (with_keys_is (ring ++ k ∷ []) ks
      ∙ ap (λ ms. answer_by (reused ms (keys_of ks)) ((ring ++ k ∷ []) ++ ks)) (map-append key_of ring (k ∷ []))
      ∙ ap (answer_by (reused (keys_of ring ++ key_of k ∷ []) (keys_of ks))) (append_assoc ring (k ∷ []) ks))

  abbrev limited : Result (List X) Refusal → Result (List X) Refusal
  limited r = after_ok r (λ ring. stop_if (nat_lt 65536 (length ring)) refusal.RingFull (Ok ring))

  module _ (ring keys : List X) (olds news : List RingKey) (a : keys_of ring ≡ olds) (b : keys_of keys ≡ news) where
    found : (o : Option ℕ) → reused olds news ≡ o → install_by key_of ring keys ≡ limited (answer_by o (ring ++ keys))
    found o e = ap limited (with_keys_is ring keys ∙ ap (λ o. answer_by o (ring ++ keys)) (ap (λ x. reused x (keys_of keys)) a ∙ ap (reused olds) b ∙ e))

    pub reused_says : (n : ℕ) → reused olds news ≡ Some n → install_by key_of ring keys ≡ Err (refusal.KeyReused n)
    reused_says n e = found (Some n) e

    count_is : length (ring ++ keys) ≡ length olds + length news
    count_is = omega (arith, length-append ring keys, length-map ring key_of, length-map keys key_of, ap length a, ap length b)

    pub full_says : reused olds news ≡ None → 65536 < length olds + length news → install_by key_of ring keys ≡ Err refusal.RingFull
    full_says e over =
        found None e ∙ ap (λ t. stop_if t refusal.RingFull (Ok (ring ++ keys))) (lt-ltb 65536 (length (ring ++ keys)) (omega (arith, over, count_is)))

    pub fits_says : reused olds news ≡ None → length olds + length news ≤ 65536 → install_by key_of ring keys ≡ Ok (ring ++ keys)
    fits_says e fits =
        found None e ∙ ap (λ t. stop_if t refusal.RingFull (Ok (ring ++ keys))) (le-ltb 65536 (length (ring ++ keys)) (omega (arith, fits, count_is)))
