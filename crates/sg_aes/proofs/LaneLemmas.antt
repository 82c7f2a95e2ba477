use Rattle.std.proofs.Common.{◌≡◌, ℕ, zero, suc, ◌+◌, ◌*◌, ◌%◌, ◌<◌, ◌/◌, ◌^◌, ◌||◌, true, T, List, [], ◌∷◌, ◌++◌, refl, ap, ap₂, ◌∙◌, sym, arith, subst, length, map, replicate, bit_and, bit_xor, w8, Fits, get_or}
use Rattle.std.specs.Prelude.{slice_index, nat_le, nat_lt}
use Rattle.std.specs.List.{range_with_len}
use Rattle.std.specs.Simd.Lanes.{zip2, Each1}
use Rattle.std.proofs.lemmas.List.FromFn.{get_or-map-range_with_len, length-map-range_with_len}
use Rattle.std.proofs.lemmas.List.{length-map, get_or-map}
use Rattle.std.proofs.lemmas.Simd.{zip2_of_maps, zip2_splat, splat_is_map, map-map, get_or-zip2, length-zip2}
use Rattle.sg_aes.specs.Field.{sub_byte, times_x, product, product_of_bits, inverse_in}
use Rattle.sg_aes.specs.Lanes.{IsPlace, IsState, look, nibbles, upper, lower, either, last_first, last_second, substituted, once, twice, key_nibbles}
use Rattle.sg_aes.specs.State.{state_by, sub_bytes, add_round_key, round, last_round, row_times}
use Rattle.sg_aes.proofs.Octets.{agree, sub_byte_lt, times_x_lt, map_octets}
use Rattle.sg_aes.proofs.CipherLemmas.{round_state}
use Rattle.std.proofs.lemmas.Nat.{xor_of_8}
use lib.Bits.{xor_assoc, xor_comm}
use Rattle.std.proofs.lemmas.Grind.{same_number_lists}
use Rattle.sg_aes.specs.declared.vectors.TheConstants.{FROM_LOW, FROM_HIGH, INVERSE, QUOTIENT, FIRST, SECOND}

-- so many octets
abbrev pub IsOctets : ℕ → List ℕ → Type 0
IsOctets w x = (length x ≡ w) × Each1 (Fits w8) x

-- these are the nibbles of a state
pub record HasNibbles (n state : List ℕ) : Type 0 where
  pub sixteen_octets : IsState state
  pub in_nibbles : n ≡ map nibbles state

-- ---- vectors that were computed lane by lane from x

pub each_map : (P : ℕ → Type 0) (g : ℕ → ℕ) (x : List ℕ) → ((v : ℕ) → v < 256 → P (g v)) → Each1 (Fits w8) x → Each1 P (map g x)
each_map P g [] h f = tt
each_map P g (v ∷ x) h f = (h v f.0.fits, each_map P g x h f.1)

pub looked : (t : List ℕ) (g : ℕ → ℕ) (x : List ℕ) (js r : List ℕ) → js ≡ map g x → r ≡ map (look t) js → r ≡ map (λ v. look t (g v)) x
looked t g x js r e h = h ∙ ap (map (look t)) e ∙ map-map (look t) g x

pub splatted : {w : ℕ} (f : ℕ → ℕ → ℕ) (g : ℕ → ℕ) (x : List ℕ) (y : ℕ) (a : List ℕ) → length x ≡ w → a ≡ map g x → zip2 f a (replicate w y) ≡ map (λ v. f (g v) y) x
splatted {w} f g x y a long e = zip2_of_maps f g (λ _. y) x e (splat_is_map x w y long)

-- ---- one octet

-- what the affine map adds
abbrev pub without : ℕ → ℕ
without v = bit_xor v 0x63

pub substituted_is : (v : ℕ) → v < 256 → substituted (nibbles v) ≡ sub_byte v
unfolding sub_byte inverse_in product_of_bits
substituted_is = agree 0 (λ v. substituted (nibbles v)) sub_byte 256 refl

pub once_is : (v : ℕ) → v < 256 → once (nibbles v) ≡ nibbles (without (sub_byte v))
unfolding sub_byte inverse_in product_of_bits
once_is = agree 0 (λ v. once (nibbles v)) (λ v. nibbles (without (sub_byte v))) 256 refl

pub twice_is : (v : ℕ) → v < 256 → twice (nibbles v) ≡ nibbles (times_x (without (sub_byte v)))
unfolding sub_byte inverse_in product_of_bits
twice_is = agree 0 (λ v. twice (nibbles v)) (λ v. nibbles (times_x (without (sub_byte v)))) 256 refl

-- two rules that agree on octets, along a state
pub same_along : (f g : ℕ → ℕ) (state : List ℕ) → ((v : ℕ) → v < 256 → f v ≡ g v) → IsState state → map f state ≡ state_by (λ i. g (slice_index state i))
same_along f g state e h =
    let k : ℕ → ℕ = λ i. g (slice_index state i) in
    same_number_lists (map f state) (state_by k) (length-map state f ∙ h.sixteen ∙ sym (length-map-range_with_len k 0 16)) (λ i lt.
    get_or-map f state i 0 0 (omega (arith, length-map state f)) ∙ e (slice_index state i) (h.octets i) ∙ sym (get_or-map-range_with_len k 0 16 i i 0 (omega (arith, length-map state f, h.sixteen)) (omega arith)))

-- a test over the 256 octets shows that each gives a place
pub place : (g : ℕ → ℕ) → map (λ v. nat_le 128 (g v) || nat_lt (g v) 16) (range_with_len 0 256) ≡ map (λ _. true) (range_with_len 0 256) → (v : ℕ) → v < 256 → IsPlace (g v)
place g e v h = subst T (sym (agree true (λ v. nat_le 128 (g v) || nat_lt (g v) 16) (λ _. true) 256 e v h)) tt

-- ---- a round

pub zipped : (f : ℕ → ℕ → ℕ) (xs ys : List ℕ) → length xs ≡ 16 → length ys ≡ 16 → zip2 f xs ys ≡ state_by (λ i. f (slice_index xs i) (slice_index ys i))
zipped f xs ys hx hy =
    let g : ℕ → ℕ = λ i. f (slice_index xs i) (slice_index ys i) in
    let len : length (zip2 f xs ys) ≡ 16 = length-zip2 f xs ys (hx ∙ sym hy) ∙ hx in
    same_number_lists (zip2 f xs ys) (state_by g) (len ∙ sym (length-map-range_with_len g 0 16)) (λ i lt.
    get_or-zip2 f xs ys i 0 0 0 (omega arith) (omega arith) ∙ sym (get_or-map-range_with_len g 0 16 i i 0 (omega arith) (omega arith)))

-- a vector's lanes at these places
abbrev pub picked : List ℕ → List ℕ → List ℕ
picked s ks = map (λ k. get_or (s ++ s) k 0) ks

abbrev pub rows : List ℕ
rows = 0 ∷ 5 ∷ 10 ∷ 15 ∷ 4 ∷ 9 ∷ 14 ∷ 3 ∷ 8 ∷ 13 ∷ 2 ∷ 7 ∷ 12 ∷ 1 ∷ 6 ∷ 11 ∷ []

abbrev pub next_rows : List ℕ
next_rows = 5 ∷ 10 ∷ 15 ∷ 0 ∷ 9 ∷ 14 ∷ 3 ∷ 4 ∷ 13 ∷ 2 ∷ 7 ∷ 8 ∷ 1 ∷ 6 ∷ 11 ∷ 12 ∷ []

abbrev pub last_rows : List ℕ
last_rows = 15 ∷ 0 ∷ 5 ∷ 10 ∷ 3 ∷ 4 ∷ 9 ∷ 14 ∷ 7 ∷ 8 ∷ 13 ∷ 2 ∷ 11 ∷ 12 ∷ 1 ∷ 6 ∷ []

abbrev pub third_rows : List ℕ
third_rows = 10 ∷ 15 ∷ 0 ∷ 5 ∷ 14 ∷ 3 ∷ 4 ∷ 9 ∷ 2 ∷ 7 ∷ 8 ∷ 13 ∷ 6 ∷ 11 ∷ 12 ∷ 1 ∷ []

-- a rule on nibbles, along those of a state
along : (f g : ℕ → ℕ) (n state x : List ℕ) → ((v : ℕ) → v < 256 → f (nibbles v) ≡ g v) → HasNibbles n state → x ≡ map f n → x ≡ state_by (λ i. g (slice_index state i))
along f g n state x e h ex =
    ex ∙ ap (map f) h.in_nibbles ∙ map-map f nibbles state ∙ same_along (λ v. f (nibbles v)) g state e h.sixteen_octets

pub last_round_is : (n state key s : List ℕ) → HasNibbles n state → length key ≡ 16 → s ≡ map substituted n → zip2 bit_xor (picked s rows) key ≡ last_round state key
unfolding last_round
last_round_is n state key s h hk e =
    ap (λ x. zip2 bit_xor (picked x rows) key) (along substituted sub_byte n state s substituted_is h e)
    ∙ zipped bit_xor (picked (sub_bytes state) rows) key refl hk

-- ---- a column times the matrix

times_one : (a : ℕ) → a < 256 → product 1 a ≡ a
unfolding product_of_bits
times_one = agree 0 (λ a. product 1 a) (λ a. a) 256 refl

-- 2 a + 3 b as 2 (a + b) + b
two_and_three : (a b : ℕ) → a < 256 → b < 256 → bit_xor (times_x (bit_xor a b)) b ≡ bit_xor (product 2 a) (product 3 b)
unfolding product_of_bits
two_and_three a b ha hb =
    let f : ℕ → List ℕ = λ a. map (λ b. bit_xor (times_x (bit_xor a b)) b) (range_with_len 0 256) in
    let g : ℕ → List ℕ = λ a. map (λ b. bit_xor (product 2 a) (product 3 b)) (range_with_len 0 256) in
    agree 0 (λ b. bit_xor (times_x (bit_xor a b)) b) (λ b. bit_xor (product 2 a) (product 3 b)) 256 (agree [] f g 256 refl a ha) b hb

xor_right : (p q d : ℕ) → bit_xor p (bit_xor q d) ≡ bit_xor (bit_xor p q) d
xor_right p q d = sym (xor_assoc p q d)

-- sums of four, in other orders
turn_2 : (a b p q : ℕ) → bit_xor (bit_xor p q) (bit_xor a b) ≡ bit_xor (bit_xor (bit_xor a b) p) q
turn_2 a b p q = xor_comm (bit_xor p q) (bit_xor a b) ∙ xor_right (bit_xor a b) p q

turn_1 : (a p q d : ℕ) → bit_xor (bit_xor p q) (bit_xor d a) ≡ bit_xor (bit_xor (bit_xor a p) q) d
turn_1 a p q d =
    ap (bit_xor (bit_xor p q)) (xor_comm d a) ∙ xor_right (bit_xor p q) a d
    ∙ ap (λ x. bit_xor x d) (xor_comm (bit_xor p q) a ∙ xor_right a p q)

turn_3 : (q b c p : ℕ) → bit_xor (bit_xor p q) (bit_xor b c) ≡ bit_xor (bit_xor (bit_xor q b) c) p
turn_3 q b c p =
    ap (λ x. bit_xor x (bit_xor b c)) (xor_comm p q) ∙ xor_assoc q p (bit_xor b c) ∙ ap (bit_xor q) (xor_comm p (bit_xor b c))
    ∙ xor_right q (bit_xor b c) p ∙ ap (λ x. bit_xor x p) (xor_right q b c)

-- what is computed of a column at each row, for the octets b and c that follow a, and what is left
row_0 : (a b c d : ℕ) → a < 256 → b < 256 → c < 256 → d < 256 → bit_xor (bit_xor (times_x (bit_xor a b)) b) (bit_xor c d) ≡ row_times 0 a b c d
row_0 a b c d ha hb hc hd =
    rw (two_and_three a b ha hb, times_one c hc, times_one d hd) (xor_right _ c d)

row_1 : (a b c d : ℕ) → a < 256 → b < 256 → c < 256 → d < 256 → bit_xor (bit_xor (times_x (bit_xor b c)) c) (bit_xor d a) ≡ row_times 1 a b c d
row_1 a b c d ha hb hc hd =
    rw (two_and_three b c hb hc, times_one a ha, times_one d hd) (turn_1 a (product 2 b) (product 3 c) d)

row_2 : (a b c d : ℕ) → a < 256 → b < 256 → c < 256 → d < 256 → bit_xor (bit_xor (times_x (bit_xor c d)) d) (bit_xor a b) ≡ row_times 2 a b c d
row_2 a b c d ha hb hc hd =
    rw (two_and_three c d hc hd, times_one a ha, times_one b hb) (turn_2 a b (product 2 c) (product 3 d))

row_3 : (a b c d : ℕ) → a < 256 → b < 256 → c < 256 → d < 256 → bit_xor (bit_xor (times_x (bit_xor d a)) a) (bit_xor b c) ≡ row_times 3 a b c d
row_3 a b c d ha hb hc hd =
    rw (two_and_three d a hd ha, times_one b hb, times_one c hc) (turn_3 (product 3 a) b c (product 2 d))

-- what is computed of a column's octets at each of its rows
abbrev pub row_at : ℕ → ℕ → ℕ → ℕ → ℕ → ℕ
row_at zero a b c d = bit_xor (bit_xor (times_x (bit_xor a b)) b) (bit_xor c d)
row_at (suc zero) a b c d = bit_xor (bit_xor (times_x (bit_xor b c)) c) (bit_xor d a)
row_at (suc (suc zero)) a b c d = bit_xor (bit_xor (times_x (bit_xor c d)) d) (bit_xor a b)
row_at (suc (suc (suc r))) a b c d = bit_xor (bit_xor (times_x (bit_xor d a)) a) (bit_xor b c)

pub row_is : (r a b c d : ℕ) → r < 4 → a < 256 → b < 256 → c < 256 → d < 256 → row_at r a b c d ≡ row_times r a b c d
row_is zero a b c d few ha hb hc hd = row_0 a b c d ha hb hc hd
row_is (suc zero) a b c d few ha hb hc hd = row_1 a b c d ha hb hc hd
row_is (suc (suc zero)) a b c d few ha hb hc hd = row_2 a b c d ha hb hc hd
row_is (suc (suc (suc zero))) a b c d few ha hb hc hd = row_3 a b c d ha hb hc hd
row_is (suc (suc (suc (suc r)))) a b c d few ha hb hc hd = absurd (omega (arith, few))

-- ---- a column in nibbles

nibbles_xor : (a b : ℕ) → a < 256 → b < 256 → bit_xor (nibbles a) (nibbles b) ≡ nibbles (bit_xor a b)
nibbles_xor a b ha hb =
    let f : ℕ → List ℕ = λ a. map (λ b. bit_xor (nibbles a) (nibbles b)) (range_with_len 0 256) in
    let g : ℕ → List ℕ = λ a. map (λ b. nibbles (bit_xor a b)) (range_with_len 0 256) in
    agree 0 (λ b. bit_xor (nibbles a) (nibbles b)) (λ b. nibbles (bit_xor a b)) 256 (agree [] f g 256 refl a ha) b hb

-- the constant in two terms of a sum is none
pub both_without : (a b : ℕ) → bit_xor (without a) (without b) ≡ bit_xor a b
both_without a b =
    xor_assoc a 0x63 (bit_xor b 0x63) ∙ ap (bit_xor a) (ap (bit_xor 0x63) (xor_comm b 0x63) ∙ sym (xor_assoc 0x63 0x63 b))

-- 2 a + b + 2 b of octets without the constant
twice_prefix : (a b : ℕ) → a < 256 → b < 256 → bit_xor (bit_xor (times_x (without a)) (without b)) (times_x (without b)) ≡ without (bit_xor (times_x (bit_xor a b)) b)
twice_prefix a b ha hb =
    let f : ℕ → List ℕ = λ a. map (λ b. bit_xor (bit_xor (times_x (without a)) (without b)) (times_x (without b))) (range_with_len 0 256) in
    let g : ℕ → List ℕ = λ a. map (λ b. without (bit_xor (times_x (bit_xor a b)) b)) (range_with_len 0 256) in
    agree 0 (λ b. bit_xor (bit_xor (times_x (without a)) (without b)) (times_x (without b))) (λ b. without (bit_xor (times_x (bit_xor a b)) b)) 256 (agree [] f g 256 refl a ha) b hb

without_lt : (a : ℕ) → a < 256 → without a < 256
without_lt a h = xor_of_8 a 0x63 h (omega arith)

abbrev one : ℕ → ℕ
one a = nibbles (without a)

abbrev two : ℕ → ℕ
two a = nibbles (times_x (without a))

-- the constant out of a sum of two
pub without_out : (p q : ℕ) → bit_xor (without p) q ≡ without (bit_xor p q)
without_out p q = xor_assoc p 0x63 q ∙ ap (bit_xor p) (xor_comm 0x63 q) ∙ sym (xor_assoc p q 0x63)

-- what is computed at an octet, of the octets a, b, c and d of its column from there on
abbrev summed : ℕ → ℕ → ℕ → ℕ → ℕ → ℕ
summed a b c d k = bit_xor (bit_xor (bit_xor (two a) (bit_xor (one b) (two b))) (bit_xor (one c) (one d))) (key_nibbles k)

cell : (a b c d k : ℕ) → a < 256 → b < 256 → c < 256 → d < 256 → k < 256
    → summed a b c d k ≡ nibbles (bit_xor (bit_xor (bit_xor (times_x (bit_xor a b)) b) (bit_xor c d)) k)
cell a b c d k ha hb hc hd hk =
    let ta = times_x_lt (without a) (without_lt a ha) in
    let tb = times_x_lt (without b) (without_lt b hb) in
    let wb = without_lt b hb in
    let p : ℕ = bit_xor (times_x (bit_xor a b)) b in
    let q : ℕ = bit_xor c d in
    let hp : p < 256 = xor_of_8 _ _ (times_x_lt _ (xor_of_8 _ _ ha hb)) hb in
    let hq : q < 256 = xor_of_8 _ _ hc hd in
    let both : bit_xor (one b) (two b) ≡ nibbles (bit_xor (without b) (times_x (without b))) = nibbles_xor _ _ wb tb in
    let prefix : bit_xor (two a) (bit_xor (one b) (two b)) ≡ nibbles (without p) =
    ap (bit_xor (two a)) both ∙ nibbles_xor _ _ ta (xor_of_8 _ _ wb tb) ∙ ap nibbles (xor_right (times_x (without a)) (without b) (times_x (without b)) ∙ twice_prefix a b ha hb) in
    let back : bit_xor (one c) (one d) ≡ nibbles q = nibbles_xor _ _ (without_lt c hc) (without_lt d hd) ∙ ap nibbles (both_without c d) in
    ap (λ x. bit_xor x (key_nibbles k)) (ap₂ bit_xor prefix back ∙ nibbles_xor _ _ (without_lt p hp) hq ∙ ap nibbles (without_out p q))
    ∙ nibbles_xor _ _ (without_lt (bit_xor p q) (xor_of_8 _ _ hp hq)) (without_lt k hk)
    ∙ ap nibbles (both_without (bit_xor p q) k)

abbrev pub round_lanes : List ℕ → List ℕ → List ℕ → List ℕ
round_lanes o t k = zip2 bit_xor (zip2 bit_xor (zip2 bit_xor (picked t rows) (picked (zip2 bit_xor o t) next_rows)) (zip2 bit_xor (picked o third_rows) (picked o last_rows))) k

round_nibbles : (n state key o t k : List ℕ) → HasNibbles n state → IsState key → k ≡ map key_nibbles key → o ≡ map once n → t ≡ map twice n
    → round_lanes o t k ≡ map nibbles (round state key)
unfolding round
round_nibbles n state key o t k h hk ek eo et =
    let q : ℕ → ℕ = λ i. sub_byte (slice_index state i) in
    let f : (i : ℕ) → q i < 256 = λ i. sub_byte_lt (slice_index state i) in
    let z : ℕ → ℕ = λ i. slice_index key i in
    let g : (i : ℕ) → z i < 256 = hk.octets in
    let os : o ≡ state_by (λ i. one (q i)) = along once (λ v. one (sub_byte v)) n state o once_is h eo in
    let ts : t ≡ state_by (λ i. two (q i)) = along twice (λ v. two (sub_byte v)) n state t twice_is h et in
    let ks : k ≡ state_by (λ i. key_nibbles (z i)) = ek ∙ same_along key_nibbles key_nibbles key (λ v lt. refl) hk in
    let at : ℕ → ℕ → ℕ = λ i r. slice_index rows (4 * (i / 4) + r % 4) in
    let c : ℕ → ℕ → ℕ = λ i r. q (at i r) in
    let e : (i r : ℕ) → c i r < 256 = λ i r. f (at i r) in
    ap₂ (λ x y. round_lanes x y k) os ts ∙ ap (round_lanes (state_by (λ i. one (q i))) (state_by (λ i. two (q i)))) ks
    ∙ (λ p. map (λ i. cell (c i i) (c i (i + 1)) (c i (i + 2)) (c i (i + 3)) (z i) (e i i) (e i (i + 1)) (e i (i + 2)) (e i (i + 3)) (g i) p) (range_with_len 0 16))
    ∙ (λ p. map (λ i. nibbles (bit_xor (row_is (i % 4) (c i 0) (c i 1) (c i 2) (c i 3) (omega arith) (e i 0) (e i 1) (e i 2) (e i 3) p) (z i))) (range_with_len 0 16))

pub round_is : (n state key o t k : List ℕ) → HasNibbles n state → IsState key → k ≡ map key_nibbles key → o ≡ map once n → t ≡ map twice n
    → HasNibbles (round_lanes o t k) (round state key)
round_is n state key o t k h hk ek eo et = record {
  sixteen_octets = round_state state key hk;
  in_nibbles = round_nibbles n state key o t k h hk ek eo et;
}

pub key_nibbles_is : {w : ℕ} (key kn : List ℕ) → length key ≡ w → kn ≡ map nibbles (zip2 bit_xor key (replicate w 0x63)) → kn ≡ map key_nibbles key
key_nibbles_is {w} key kn long e = e ∙ ap (map nibbles) (zip2_splat bit_xor key w 0x63 long) ∙ map-map nibbles without key

pub each_at : (x : List ℕ) → Each1 (Fits w8) x → (i : ℕ) → slice_index x i < 256
each_at [] h i = omega arith
each_at (v ∷ x) h zero = h.0.fits
each_at (v ∷ x) h (suc i) = each_at x h.1 i

pub keyed_is : (part key n : List ℕ) → length part ≡ 16 → ((i : ℕ) → slice_index part i < 256) → IsOctets 16 key → n ≡ map nibbles (zip2 bit_xor part key) → HasNibbles n (add_round_key part key)
keyed_is part key n hp fp hk e = record {
  sixteen_octets = record { sixteen = refl; octets = map_octets (λ i. bit_xor (slice_index part i) (slice_index key i)) (range_with_len 0 16) (λ i. xor_of_8 _ _ (fp i) (each_at key hk.1 i)) };
  in_nibbles = e ∙ ap (map nibbles) (zipped bit_xor part key hp hk.0);
}

-- ---- the substitution

abbrev down : ℕ → ℕ → ℕ
down a b = a / 2 ^ b

pub low_places : {w : ℕ} (x : List ℕ) → IsOctets w x → Each1 IsPlace (zip2 bit_and x (replicate w 15))
low_places {w} x h = subst (Each1 IsPlace) (sym (zip2_splat bit_and x w 15 h.0)) (each_map IsPlace (λ v. bit_and v 15) x (place (λ v. bit_and v 15) refl) h.1)

pub high_places : {w : ℕ} (x : List ℕ) → IsOctets w x → Each1 IsPlace (zip2 down x (replicate w 4))
high_places {w} x h = subst (Each1 IsPlace) (sym (zip2_splat down x w 4 h.0)) (each_map IsPlace (λ v. v / 2 ^ 4) x (place (λ v. v / 2 ^ 4) refl) h.1)

pub nibbles_is : {w : ℕ} (x l u : List ℕ) → IsOctets w x → l ≡ map (look FROM_LOW) (zip2 bit_and x (replicate w 15)) → u ≡ map (look FROM_HIGH) (zip2 down x (replicate w 4)) → zip2 bit_xor l u ≡ map nibbles x
nibbles_is {w} x l u h el eu =
    zip2_of_maps bit_xor (λ v. look FROM_LOW (bit_and v 15)) (λ v. look FROM_HIGH (v / 2 ^ 4)) x
    (looked FROM_LOW (λ v. bit_and v 15) x _ l (zip2_splat bit_and x w 15 h.0) el)
    (looked FROM_HIGH (λ v. v / 2 ^ 4) x _ u (zip2_splat down x w 4 h.0) eu)

pub lower_is : {w : ℕ} (n : List ℕ) → IsOctets w n → zip2 bit_and n (replicate w 15) ≡ map lower n
lower_is {w} n h = zip2_splat bit_and n w 15 h.0

pub upper_is : {w : ℕ} (n : List ℕ) → IsOctets w n → zip2 down n (replicate w 4) ≡ map upper n
upper_is {w} n h = zip2_splat down n w 4 h.0

pub either_is : {w : ℕ} (n : List ℕ) → IsOctets w n → zip2 bit_xor (zip2 down n (replicate w 4)) (zip2 bit_and n (replicate w 15)) ≡ map either n
either_is {w} n h = zip2_of_maps bit_xor upper lower n (upper_is n h) (lower_is n h)

-- the places of a vector that was computed lane by lane
pub places_of : {w : ℕ} (g : ℕ → ℕ) → map (λ v. nat_le 128 (g v) || nat_lt (g v) 16) (range_with_len 0 256) ≡ map (λ _. true) (range_with_len 0 256) → (n r : List ℕ) → IsOctets w n → r ≡ map g n → Each1 IsPlace r
places_of {w} g e n r h er = subst (Each1 IsPlace) (sym er) (each_map IsPlace g n (place g e) h.1)

pub over_is : {w : ℕ} (g : ℕ → ℕ) (n at q a : List ℕ) → IsOctets w n → at ≡ map g n → q ≡ map (look QUOTIENT) (zip2 bit_and n (replicate w 15)) → a ≡ map (look INVERSE) at
    → zip2 bit_xor a q ≡ map (λ v. bit_xor (look INVERSE (g v)) (look QUOTIENT (lower v))) n
over_is {w} g n at q a h e eq ea =
    zip2_of_maps bit_xor (λ v. look INVERSE (g v)) (λ v. look QUOTIENT (lower v)) n (looked INVERSE g n at a e ea) (looked QUOTIENT lower n _ q (lower_is n h) eq)

pub last_is : (g f : ℕ → ℕ) (n at a b : List ℕ) → at ≡ map g n → a ≡ map (look INVERSE) at → b ≡ map f n → zip2 bit_xor a b ≡ map (λ v. bit_xor (look INVERSE (g v)) (f v)) n
last_is g f n at a b e ea eb = zip2_of_maps bit_xor (λ v. look INVERSE (g v)) f n (looked INVERSE g n at a e ea) eb

-- two look-ups at the nibbles whose inverses make the inverse
pub pair_is : (one_table other_table n s t a b : List ℕ) → s ≡ map last_first n → t ≡ map last_second n → a ≡ map (look one_table) s → b ≡ map (look other_table) t
    → zip2 bit_xor a b ≡ map (λ v. bit_xor (look one_table (last_first v)) (look other_table (last_second v))) n
pair_is one_table other_table n s t a b es et ea eb =
    zip2_of_maps bit_xor (λ v. look one_table (last_first v)) (λ v. look other_table (last_second v)) n (looked one_table last_first n s a es ea) (looked other_table last_second n t b et eb)

pub substituted_lanes_are : {w : ℕ} (n s t a b : List ℕ) → IsOctets w n → s ≡ map last_first n → t ≡ map last_second n → a ≡ map (look FIRST) s → b ≡ map (look SECOND) t
    → zip2 bit_xor (zip2 bit_xor a b) (replicate w 0x63) ≡ map substituted n
substituted_lanes_are {w} n s t a b h es et ea eb =
    splatted bit_xor (λ v. bit_xor (look FIRST (last_first v)) (look SECOND (last_second v))) n 0x63 _ h.0 (pair_is FIRST SECOND n s t a b es et ea eb)

pub map_sub : (x : List ℕ) → Each1 (Fits w8) x → map (λ v. substituted (nibbles v)) x ≡ map sub_byte x
map_sub [] h = refl
map_sub (v ∷ x) h = λ p. substituted_is v h.0.fits p ∷ map_sub x h.1 p
