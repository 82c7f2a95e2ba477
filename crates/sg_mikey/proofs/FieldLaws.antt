-- A field that is read is the field that was written, and what was written is read again.
use Rattle.std.proofs.Common.{◌≡◌, ℕ, suc, ◌+◌, ◌^◌, ◌<◌, ◌≤◌, Bool, true, false, cond, nat_eq, nat_lt, nat_le, List, [], ◌∷◌, ◌++◌, length, get_or, take, drop, Result, Ok, Err, refl, sym, ap, subst, ◌∙◌, append_assoc, arith, inl, inr}
use Rattle.std.proofs.lemmas.Bool.{cases_lt, ltb-false, le-ltb, leb-true, le-leb, eqb-true}
use Rattle.std.proofs.lemmas.List.{take_at, drop_at, take-append-drop, length-append, length-take, get_or-drop, get_or-take, get_or_past}
use Rattle.sg_base.specs.Octets.{be, number_of}
use Rattle.sg_base.specs.declared.MikeyFault.{MikeyFault}
use Rattle.sg_base.specs.declared.MikeyFault.TheVariants as faults
use Rattle.sg_base.proofs.Cases.{chosen}
use Rattle.sg_mikey.specs.declared.faults.Stop.{Stop}
use Rattle.sg_mikey.specs.Spelling.{sized}
use Rattle.sg_mikey.specs.Reading.{◌>>=◌, stop, cut, octet_at, up_to_at, octets_at, number_at, sized_at, is_number, next_at, item_type_at, version_at, verify_bit_at}

abbrev pub IsOctets : List ℕ → Type 0
IsOctets octets = (i : ℕ) → get_or octets i 0 < 256

IsOctets-drop : (n : ℕ) (octets : List ℕ) → IsOctets octets → IsOctets (drop n octets)
IsOctets-drop n octets h i = rw get_or-drop (h (n + i))

IsOctets-take : (n : ℕ) (octets : List ℕ) → IsOctets octets → IsOctets (take n octets)
IsOctets-take n octets h i =
    elim (cases_lt i n) [
      | inl lt ↦ rw (get_or-take n octets i 0 lt) (h i)
      | inr le ↦ rw (get_or_past (take n octets) i 0 (omega (arith, length-take n octets))) (omega arith)
    ]

IsOctets-rest : (x : ℕ) (octets : List ℕ) → IsOctets (x ∷ octets) → IsOctets octets
IsOctets-rest x octets h i = h (suc i)

-- what follows from a part that was read, of what it is, and what is read behind it
pub took : {A B G : Type 0} {P : A → Type 0} (r : Result A Stop) (f : A → Result B Stop) (y : B) → ((x : A) → r ≡ Ok x → P x) → (r >>= f) ≡ Ok y
    → ((x : A) → P x → f x ≡ Ok y → G) → G
took (Ok x) f y is e go = go x (is x refl) e
took (Err d) f y is e go = absurd cc

-- a test that did not fail
pub guard_ok : {A : Type 0} (b : Bool) (d : Stop) (x y : A) → cond b (Err d) (Ok x) ≡ Ok y → (b ≡ false) × (x ≡ y)
guard_ok true d x y e = absurd cc
guard_ok false d x y e = (refl, cc)

pub pass_ok : {A : Type 0} (b : Bool) (d : Stop) (x y : A) → cond b (Ok x) (Err d) ≡ Ok y → (b ≡ true) × (x ≡ y)
pass_ok true d x y e = (refl, cc)
pass_ok false d x y e = absurd cc

abbrev done : {A : Type 0} → A → Result A Stop
done x = Ok x

pub ok_is : {A : Type 0} (x y : A) → done x ≡ done y → x ≡ y
ok_is x y e = cc

-- what a reader took from the front
pub record Takes (octets text rest : List ℕ) : Type 0 where
  pub parts : octets ≡ text ++ rest
  pub rest_fits : IsOctets rest

pub Takes-then : (a x b y c : List ℕ) → Takes a x b → Takes b y c → Takes a (x ++ y) c
Takes-then a x b y c p q = record { parts = p.parts ∙ ap (λ (t : List ℕ). x ++ t) q.parts ∙ sym (append_assoc x y c); rest_fits = q.rest_fits }

Takes-one : (x : ℕ) (rest : List ℕ) → IsOctets (x ∷ rest) → Takes (x ∷ rest) (x ∷ []) rest
Takes-one x rest fits = record { parts = refl; rest_fits = IsOctets-rest x rest fits }

-- ---- octets

pub octet_takes : (octets : List ℕ) (y : ℕ × List ℕ) → IsOctets octets → octet_at octets ≡ Ok y → Takes octets (y.0 ∷ []) y.1 × (y.0 < 256)
unfolding octet_at
octet_takes [] y fits e = absurd cc
octet_takes (x ∷ rest) y fits e =
    subst (λ (z : ℕ × List ℕ). Takes (x ∷ rest) (z.0 ∷ []) z.1 × (z.0 < 256)) (ok_is (x, rest) y e) (Takes-one x rest fits, fits 0)

pub octet_again : (x : ℕ) (rest : List ℕ) → octet_at (x ∷ rest) ≡ Ok (x, rest)
unfolding octet_at
octet_again x rest = refl

pub up_to_takes : (most : ℕ) (fault : MikeyFault) (octets : List ℕ) (y : ℕ × List ℕ) → IsOctets octets → up_to_at most fault octets ≡ Ok y → Takes octets (y.0 ∷ []) y.1 × (y.0 ≤ most)
unfolding up_to_at
up_to_takes most fault [] y fits e = absurd cc
up_to_takes most fault (x ∷ rest) y fits e =
    let g = pass_ok (nat_le x most) (stop (x ∷ rest) fault) (x, rest) y e in
    subst (λ (z : ℕ × List ℕ). Takes (x ∷ rest) (z.0 ∷ []) z.1 × (z.0 ≤ most)) g.1 (Takes-one x rest fits, leb-true x most g.0)

pub up_to_again : (most : ℕ) (fault : MikeyFault) (x : ℕ) (rest : List ℕ) → x ≤ most → up_to_at most fault (x ∷ rest) ≡ Ok (x, rest)
unfolding up_to_at
up_to_again most fault x rest h = rw (le-leb x most h) refl

pub octets_takes : (n : ℕ) (octets : List ℕ) (y : List ℕ × List ℕ) → IsOctets octets → octets_at n octets ≡ Ok y → Takes octets y.0 y.1 × (length y.0 ≡ n)
unfolding octets_at
octets_takes n octets y fits e =
    let g = guard_ok (nat_lt (length octets) n) cut (take n octets, drop n octets) y e in
    let long : n ≤ length octets = ltb-false _ _ g.0 in
    subst (λ (z : List ℕ × List ℕ). Takes octets z.0 z.1 × (length z.0 ≡ n)) g.1
    (record { parts = sym (take-append-drop n octets); rest_fits = IsOctets-drop n octets fits }, omega (arith, length-take n octets))

pub octets_again : (n : ℕ) (x rest : List ℕ) → length x ≡ n → octets_at n (x ++ rest) ≡ Ok (x, rest)
unfolding octets_at
octets_again n x rest h =
    let long : nat_lt (length (x ++ rest)) n ≡ false = le-ltb _ _ (omega (arith, length-append x rest)) in
    rw (long, take_at x rest n h, drop_at x rest n h) refl

-- ---- numbers

-- so many octets hold the numbers below a limit
pub record IsWide (size limit : ℕ) : Type 0 where
  pub len : (n : ℕ) → length (be n size) ≡ size
  pub back : (octets : List ℕ) → length octets ≡ size → IsOctets octets → be (number_of octets) size ≡ octets
  pub again : (n : ℕ) → n < limit → number_of (be n size) ≡ n
  pub below : (octets : List ℕ) → length octets ≡ size → IsOctets octets → number_of octets < limit

same_two : (a b c d : ℕ) → a ≡ c → b ≡ d → a ∷ b ∷ [] ≡ c ∷ d ∷ []
same_two a b c d e f = rw (e, f) refl

back_two : (octets : List ℕ) → length octets ≡ 2 → IsOctets octets → be (number_of octets) 2 ≡ octets
back_two (a ∷ b ∷ []) h fits = let fa = fits 0 in let fb = fits 1 in same_two _ _ a b (omega (arith, fa, fb)) (omega (arith, fa, fb))
back_two other h fits = absurd (omega (arith, h))

below_two : (octets : List ℕ) → length octets ≡ 2 → IsOctets octets → number_of octets < 2 ^ 16
below_two (a ∷ b ∷ []) h fits = let fa = fits 0 in let fb = fits 1 in omega (arith, fa, fb)
below_two other h fits = absurd (omega (arith, h))

pub wide_two : IsWide 2 (2 ^ 16)
wide_two = record { len = λ n. refl; back = back_two; again = λ n lt. omega arith; below = below_two }

same_four : (a b c d p q r s : ℕ) → a ≡ p → b ≡ q → c ≡ r → d ≡ s → a ∷ b ∷ c ∷ d ∷ [] ≡ p ∷ q ∷ r ∷ s ∷ []
same_four a b c d p q r s e f g h = rw (e, f, g, h) refl

back_four : (octets : List ℕ) → length octets ≡ 4 → IsOctets octets → be (number_of octets) 4 ≡ octets
back_four (a ∷ b ∷ c ∷ d ∷ []) h fits =
    let fa = fits 0 in let fb = fits 1 in let fc = fits 2 in let fd = fits 3 in
    same_four _ _ _ _ a b c d (omega (arith, fa, fb, fc, fd)) (omega (arith, fa, fb, fc, fd)) (omega (arith, fa, fb, fc, fd)) (omega (arith, fa, fb, fc, fd))
back_four other h fits = absurd (omega (arith, h))

below_four : (octets : List ℕ) → length octets ≡ 4 → IsOctets octets → number_of octets < 2 ^ 32
below_four (a ∷ b ∷ c ∷ d ∷ []) h fits =
    let fa = fits 0 in let fb = fits 1 in let fc = fits 2 in let fd = fits 3 in omega (arith, fa, fb, fc, fd)
below_four other h fits = absurd (omega (arith, h))

pub wide_four : IsWide 4 (2 ^ 32)
wide_four = record { len = λ n. refl; back = back_four; again = λ n lt. omega arith; below = below_four }

pub number_takes : (size limit : ℕ) (wide : IsWide size limit) (octets : List ℕ) (y : ℕ × List ℕ) → IsOctets octets → number_at size octets ≡ Ok y → Takes octets (be y.0 size) y.1 × (y.0 < limit)
unfolding number_at
number_takes size limit wide octets y fits e =
    let g = guard_ok (nat_lt (length octets) size) cut (number_of (take size octets), drop size octets) y e in
    let long : size ≤ length octets = ltb-false _ _ g.0 in
    let len : length (take size octets) ≡ size = omega (arith, length-take size octets) in
    let prefix : be (number_of (take size octets)) size ≡ take size octets = wide.back (take size octets) len (IsOctets-take size octets fits) in
    subst (λ (z : ℕ × List ℕ). Takes octets (be z.0 size) z.1 × (z.0 < limit)) g.1
    (record { parts = rw prefix (sym (take-append-drop size octets)); rest_fits = IsOctets-drop size octets fits }, wide.below (take size octets) len (IsOctets-take size octets fits))

pub number_again : (size limit : ℕ) (wide : IsWide size limit) (n : ℕ) (rest : List ℕ) → n < limit → number_at size (be n size ++ rest) ≡ Ok (n, rest)
unfolding number_at
number_again size limit wide n rest lt =
    let len = wide.len n in
    let long : nat_lt (length (be n size ++ rest)) size ≡ false = le-ltb _ _ (omega (arith, length-append (be n size) rest)) in
    rw (long, take_at (be n size) rest size len, drop_at (be n size) rest size len, wide.again n lt) refl

-- ---- octets behind their number

pub sized_takes : (octets : List ℕ) (y : List ℕ × List ℕ) → IsOctets octets → sized_at octets ≡ Ok y → Takes octets (sized y.0) y.1 × (length y.0 < 2 ^ 16)
unfolding sized_at
sized_takes octets y fits e =
    took (number_at 2 octets) _ y (λ x. number_takes 2 (2 ^ 16) wide_two octets x fits) e (λ a first ea.
    let second = octets_takes a.0 a.1 y first.0.rest_fits ea in
    let both = Takes-then octets (be a.0 2) a.1 y.0 y.1 first.0 second.0 in
    (subst (λ (n : ℕ). Takes octets (be n 2 ++ y.0) y.1) (sym second.1) both, rw second.1 first.1))

pub sized_again : (x rest : List ℕ) → length x < 2 ^ 16 → sized_at (sized x ++ rest) ≡ Ok (x, rest)
unfolding sized_at
sized_again x rest lt =
    rw (number_again 2 (2 ^ 16) wide_two (length x) (x ++ rest) lt) (octets_again (length x) x rest refl)

-- ---- the next payload's number

pub next_takes : (octets : List ℕ) (y : ℕ × List ℕ) → IsOctets octets → next_at octets ≡ Ok y → Takes octets (y.0 ∷ []) y.1 × (is_number y.0 ≡ true)
unfolding next_at
next_takes [] y fits e = absurd cc
next_takes (x ∷ rest) y fits e =
    let g = pass_ok (is_number x) (stop (x ∷ rest) faults.Payload) (x, rest) y e in
    subst (λ (z : ℕ × List ℕ). Takes (x ∷ rest) (z.0 ∷ []) z.1 × (is_number z.0 ≡ true)) g.1 (Takes-one x rest fits, g.0)

pub next_again : (x : ℕ) (rest : List ℕ) → is_number x ≡ true → next_at (x ∷ rest) ≡ Ok (x, rest)
unfolding next_at
next_again x rest h = rw h refl

-- ---- the type of a policy's item

pub item_type_takes : (room : ℕ) (octets : List ℕ) (y : ℕ × List ℕ) → IsOctets octets → item_type_at room octets ≡ Ok y → Takes octets (y.0 ∷ []) y.1 × (2 ≤ room)
unfolding item_type_at
item_type_takes room [] y fits e = absurd cc
item_type_takes room (x ∷ rest) y fits e =
    let g = guard_ok (nat_lt room 2) (stop (x ∷ rest) faults.Value) (x, rest) y e in
    (subst (λ (z : ℕ × List ℕ). Takes (x ∷ rest) (z.0 ∷ []) z.1) g.1 (Takes-one x rest fits), ltb-false room 2 g.0)

pub item_type_again : (room x : ℕ) (rest : List ℕ) → 2 ≤ room → item_type_at room (x ∷ rest) ≡ Ok (x, rest)
unfolding item_type_at
item_type_again room x rest h = rw (le-ltb room 2 h) refl

-- ---- version and V bit

pub version_takes : (octets : List ℕ) (y : ℕ × List ℕ) → IsOctets octets → version_at octets ≡ Ok y → Takes octets (1 ∷ []) y.1
unfolding version_at
version_takes [] y fits e = absurd cc
version_takes (x ∷ rest) y fits e =
    let g = pass_ok (nat_eq x 1) (stop (x ∷ rest) faults.Version) (x, rest) y e in
    let one : x ≡ 1 = eqb-true x 1 g.0 in
    subst (λ (z : ℕ × List ℕ). Takes (x ∷ rest) (1 ∷ []) z.1) g.1 (record { parts = ap (λ (n : ℕ). n ∷ rest) one; rest_fits = IsOctets-rest x rest fits })

pub version_again : (rest : List ℕ) → version_at (1 ∷ rest) ≡ Ok (1, rest)
unfolding version_at
version_again rest = refl

-- the V bit's octet
abbrev pub verify_octet : Bool → ℕ
verify_octet verify = cond verify 128 0

pub verify_takes : (octets : List ℕ) (y : Bool × List ℕ) → IsOctets octets → verify_bit_at octets ≡ Ok y → Takes octets (verify_octet y.0 ∷ []) y.1
unfolding verify_bit_at
verify_takes [] y fits e = absurd cc
verify_takes (x ∷ rest) y fits e =
    elim (chosen (nat_eq x 0) (Ok (false, rest)) (cond (nat_eq x 128) (Ok (true, rest)) (Err (stop (x ∷ rest) faults.Value))) (Ok y) e) [
      | inl off ↦
          subst (λ (z : Bool × List ℕ). Takes (x ∷ rest) (verify_octet z.0 ∷ []) z.1) (ok_is (false, rest) y off.1)
          (record { parts = ap (λ (n : ℕ). n ∷ rest) (eqb-true x 0 off.0); rest_fits = IsOctets-rest x rest fits })
      | inr other ↦
          (let g = pass_ok (nat_eq x 128) (stop (x ∷ rest) faults.Value) (true, rest) y other.1 in
          subst (λ (z : Bool × List ℕ). Takes (x ∷ rest) (verify_octet z.0 ∷ []) z.1) g.1
          (record { parts = ap (λ (n : ℕ). n ∷ rest) (eqb-true x 128 g.0); rest_fits = IsOctets-rest x rest fits }))
    ]

pub verify_again : (verify : Bool) (rest : List ℕ) → verify_bit_at (verify_octet verify ∷ rest) ≡ Ok (verify, rest)
unfolding verify_bit_at
verify_again true rest = refl
verify_again false rest = refl
