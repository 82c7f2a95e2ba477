-- What the indexes tell is the least number of a key that clashes.
use Rattle.std.proofs.Common.{◌≡◌, ℕ, ◌+◌, ◌<◌, ◌≤◌, Bool, false, List, [], ◌∷◌, ◌++◌, length, take, drop, get_or, Option, Some, None, IfSome, refl, rules, arith, ap, sym, ◌∙◌, inl, inr, Result, Ok, Err, add-zero, zero-add, add-one}
use Rattle.std.specs.Prelude.{◌||◌, if◌then◌else◌, OnOk}
use Rattle.std.specs.Result.{is_err}
use Rattle.std.proofs.lemmas.Bool.{cases_Bool, lt-ltb, le-ltb, true≢false}
use Rattle.std.proofs.lemmas.List.{take-append-drop, length-take-le}
use Rattle.std.proofs.Math.Seq.{take-suc}
use Rattle.std.specs.Option.{option_or}
use Rattle.sg_base.specs.Octets.{same_octets}
use Rattle.sg_session.specs.Ring.{RingKey, keys_clash, same_secret}
use Rattle.sg_keys.specs.declared.part.Part.{Part}
use Rattle.sg_keys.specs.declared.part.Part.TheVariants as part
use Rattle.sg_keys.specs.Reused.{first_from}
use Rattle.sg_keys.specs.Indexed.{octets_of, first_of, first_with, first_secret, least}

first_from_is : (n : ℕ) (ring : List RingKey) (key : RingKey) → first_from n ring key ≡ first_of (λ r. keys_clash r key) n ring
first_from_is n [] key = refl
first_from_is n (r ∷ ring) key = ap (λ o. if keys_clash r key then Some n else o) (first_from_is (n + 1) ring key)

weaker : (n : ℕ) (o : Option ℕ) → IfSome o (λ k. n + 1 ≤ k) → IfSome o (λ k. n ≤ k)
weaker n None h = h
weaker n (Some k) h = omega (arith, h)

behind : (n : ℕ) (o : Option ℕ) → IfSome o (λ k. n + 1 ≤ k) → IfSome o (λ k. n < k)
behind n None h = h
behind n (Some k) h = omega (arith, h)

from_on : (test : RingKey → Bool) (n : ℕ) (ring : List RingKey) → IfSome (first_of test n ring) (λ k. n ≤ k)
from_on test n [] = search rules
from_on test n (r ∷ ring) = elim (cases_Bool (test r)) [
  | inl y ↦ rw y (omega arith)
  | inr x ↦ rw x (weaker n (first_of test (n + 1) ring) (from_on test (n + 1) ring))
]

sooner : (n m : ℕ) (o : Option ℕ) → n ≡ m → IfSome o (λ k. k < n) → IfSome o (λ k. k < m)
sooner n m None e h = h
sooner n m (Some k) e h = omega (arith, e, h)

up_to : (test : RingKey → Bool) (n : ℕ) (ring : List RingKey) → IfSome (first_of test n ring) (λ k. k < n + length ring)
up_to test n [] = search rules
up_to test n (r ∷ ring) = elim (cases_Bool (test r)) [
  | inl y ↦ rw y (omega arith)
  | inr x ↦ rw x (sooner (n + 1 + length ring) (n + length (r ∷ ring)) (first_of test (n + 1) ring) (omega arith) (up_to test (n + 1) ring))
]

-- a number that is told is one of the ring
pub within_ring : (ring : List RingKey) (key : RingKey) → IfSome (first_from 0 ring key) (λ n. n < length ring)
within_ring ring key = rw (first_from_is 0 ring key) (sooner (0 + length ring) (length ring) (first_of (λ r. keys_clash r key) 0 ring) (omega arith) (up_to (λ r. keys_clash r key) 0 ring))

left_least : (n : ℕ) (o : Option ℕ) → IfSome o (λ k. n ≤ k) → least (Some n) o ≡ Some n
left_least n None h = refl
left_least n (Some k) h = rw (le-ltb k n h) refl

right_least : (n : ℕ) (o : Option ℕ) → IfSome o (λ k. n < k) → least o (Some n) ≡ Some n
right_least n None h = refl
right_least n (Some k) h = rw (lt-ltb n k h) refl

-- of a key that passes one of two tests
first_of-or : (p q : RingKey → Bool) (n : ℕ) (ring : List RingKey) → first_of (λ r. p r || q r) n ring ≡ least (first_of p n ring) (first_of q n ring)
first_of-or p q n [] = refl
first_of-or p q n (r ∷ ring) = elim (cases_Bool (p r)) [
  | inl a ↦ elim (cases_Bool (q r)) [
    | inl b ↦ rw (a, b) (sym (left_least n (Some n) (omega arith)))
    | inr b ↦ rw (a, b) (sym (left_least n (first_of q (n + 1) ring) (weaker n (first_of q (n + 1) ring) (from_on q (n + 1) ring))))
  ]
  | inr a ↦ elim (cases_Bool (q r)) [
    | inl b ↦ rw (a, b) (sym (right_least n (first_of p (n + 1) ring) (behind n (first_of p (n + 1) ring) (from_on p (n + 1) ring))))
    | inr b ↦ rw (a, b) (first_of-or p q (n + 1) ring)
  ]
]

abbrev by : RingKey → Part → Part → RingKey → Bool
by key p q r = same_secret (octets_of p r) (octets_of q key)

-- the least number of a key that clashes is the least of what the indexes tell
pub least_clash : (ring : List RingKey) (key : RingKey) → let rtp = octets_of part.Rtp key in let rtcp = octets_of part.Rtcp key in
    least (first_with part.Master key.master.key 0 ring) (least (least (first_secret part.Rtp rtp 0 ring) (first_secret part.Rtp rtcp 0 ring)) (least (first_secret part.Rtcp rtp 0 ring) (first_secret part.Rtcp rtcp 0 ring)))
    ≡ first_from 0 ring key
least_clash ring key = sym (
    first_from_is 0 ring key
    ∙ first_of-or (λ r. same_octets r.master.key key.master.key) (λ r. (by key part.Rtp part.Rtp r || by key part.Rtp part.Rtcp r) || (by key part.Rtcp part.Rtp r || by key part.Rtcp part.Rtcp r)) 0 ring
    ∙ ap (least (first_with part.Master key.master.key 0 ring)) (
    first_of-or (λ r. by key part.Rtp part.Rtp r || by key part.Rtp part.Rtcp r) (λ r. by key part.Rtcp part.Rtp r || by key part.Rtcp part.Rtcp r) 0 ring
    ∙ ap (λ o. least o (first_of (λ r. by key part.Rtcp part.Rtp r || by key part.Rtcp part.Rtcp r) 0 ring)) (first_of-or (by key part.Rtp part.Rtp) (by key part.Rtp part.Rtcp) 0 ring)
    ∙ ap (least (least (first_of (by key part.Rtp part.Rtp) 0 ring) (first_of (by key part.Rtp part.Rtcp) 0 ring))) (first_of-or (by key part.Rtcp part.Rtp) (by key part.Rtcp part.Rtcp) 0 ring)))

first_of-same : (p q : RingKey → Bool) → ((r : RingKey) → p r ≡ q r) → (n : ℕ) (ring : List RingKey) → first_of p n ring ≡ first_of q n ring
first_of-same p q e n [] = refl
first_of-same p q e n (r ∷ ring) = rw (e r, first_of-same p q e (n + 1) ring) refl

none_of : (n : ℕ) (ring : List RingKey) → first_of (λ _. false) n ring ≡ None
none_of n [] = refl
none_of n (r ∷ ring) = none_of (n + 1) ring

no_secret : (xs : List ℕ) → same_secret xs [] ≡ false
no_secret [] = refl
no_secret (x ∷ xs) = refl

-- empty octets are no secret
pub empty_found : (p : Part) (secret : List ℕ) (ring : List RingKey) → length secret ≡ 0 → None ≡ first_secret p secret 0 ring
empty_found p [] ring e = sym (first_of-same (λ r. same_secret (octets_of p r) []) (λ _. false) (λ r. no_secret (octets_of p r)) 0 ring ∙ none_of 0 ring)
empty_found p (y ∷ ys) ring e = absurd (omega (arith, e))

first_of-append : (test : RingKey → Bool) (n : ℕ) (xs ys : List RingKey) → first_of test n (xs ++ ys) ≡ option_or (first_of test n xs) (first_of test (n + length xs) ys)
first_of-append test n [] ys = ap (λ m. first_of test m ys) (sym (add-zero n))
first_of-append test n (x ∷ xs) ys =
    elim (cases_Bool (test x)) [
      | inl y ↦ rw y refl
      | inr m ↦ rw m (first_of-append test (n + 1) xs ys ∙ ap (λ j. option_or (first_of test (n + 1) xs) (first_of test j ys)) (omega arith))
    ]

-- of the first keys, and behind them
pub split_at : (test : RingKey → Bool) (n : ℕ) (ring : List RingKey) → n ≤ length ring → first_of test 0 ring ≡ option_or (first_of test 0 (take n ring)) (first_of test n (drop n ring))
split_at test n ring h =
    ap (first_of test 0) (sym (take-append-drop n ring))
    ∙ first_of-append test 0 (take n ring) (drop n ring)
    ∙ ap (λ j. option_or (first_of test 0 (take n ring)) (first_of test j (drop n ring))) (zero-add (length (take n ring)) ∙ length-take-le n ring h)

-- of one key more
pub one_more : (test : RingKey → Bool) (n : ℕ) (ring : List RingKey) (r : RingKey) → n < length ring → r ≡ get_or ring n r
    → first_of test 0 (take (n + 1) ring) ≡ option_or (first_of test 0 (take n ring)) (if test r then Some n else None)
one_more test n ring r h e =
    ap (first_of test 0) (rw (add-one n, take-suc ring n r h, ← e) refl)
    ∙ first_of-append test 0 (take n ring) (r ∷ [])
    ∙ ap (λ j. option_or (first_of test 0 (take n ring)) (first_of test j (r ∷ []))) (zero-add (length (take n ring)) ∙ length-take-le n ring (omega (arith, h)))

-- what an `Ok` says
pub on_ok : {E : Type 0} (r : Result Unit E) (P : Type 0) → is_err r ≡ false → OnOk r P → P
on_ok (Ok v) P e h = h
on_ok (Err x) P e h = absurd (true≢false e)
