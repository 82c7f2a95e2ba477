-- Two states side by side in a vector of 32 octets.
use Rattle.std.proofs.Common.{◌≡◌, ℕ, suc, ◌+◌, ◌*◌, ◌<◌, ◌≤◌, ◌/◌, ◌||◌, Bool, true, false, cond, T, leb, ltb, ltb-true, List, [], ◌∷◌, ◌++◌, inl, inr, refl, ap, ap₂, ◌∙◌, sym, subst, arith, length, map, replicate, bit_xor, w8, Fits, get_or, take, drop}
use Rattle.std.specs.Prelude.{slice_index}
use Rattle.std.specs.List.{range_with_len}
use Rattle.std.specs.Simd.Lanes.{zip2, Each1}
use lib.Lanes.{pick_l}
use Rattle.std.proofs.lemmas.Bool.{cases_lt}
use Rattle.std.proofs.lemmas.List.{length-map, map-append, length-append, length-drop, length-take-le, get_or-drop, get_or_append_left, get_or-append-add}
use Rattle.std.proofs.lemmas.List.FromFn.{length-map-range_with_len, get_or-map-range_with_len}
use Rattle.std.proofs.lemmas.Simd.{swz_l, SwzOk, SwzOk-from_Each1, pick_l_whole, map-map, chunk-drop, Each1-chunk}
use Rattle.std.proofs.lemmas.Grind.{same_number_lists}
use lib.Seq.{take-append_seam, drop-append_seam}
use Rattle.sg_aes.specs.Lanes.{IsPlace, IsState, HasBoth, look, nibbles, once, twice, substituted, key_nibbles}
use Rattle.sg_aes.specs.Field.{sub_byte}
use Rattle.sg_aes.specs.State.{state_by, add_round_key, round, last_round}
use Rattle.sg_aes.proofs.LaneLemmas.{IsOctets, HasNibbles, key_nibbles_is, map_sub, picked, rows, round_lanes, round_is, last_round_is, each_at, keyed_is}

-- ---- look-ups

pub pair_places_ok : (js : List ℕ) → length js ≡ 32 → Each1 IsPlace js → SwzOk w8 16 32 0 js
pair_places_ok js long h = SwzOk-from_Each1 w8 16 2 32 0 js refl (omega arith) h

-- an octet of a table that stands twice
of_two : (t : List ℕ) (i j : ℕ) → length t ≡ 16 → i < 32 → j < 16 → get_or (t ++ t) (16 * (i / 16) + j) 0 ≡ get_or t j 0
of_two t i j long lt small = elim (cases_lt i 16) [
  | inl l ↦ ap (λ (k : ℕ). get_or (t ++ t) k 0) (omega arith) ∙ get_or_append_left t t 0 j (omega arith)
  | inr g ↦ ap (λ (k : ℕ). get_or (t ++ t) k 0) (omega arith) ∙ get_or-append-add t t j 0
]

below_of : (j : ℕ) (b : Bool) → ltb j 16 ≡ b → T b → j < 16
below_of j true e h = ltb-true j 16 e
below_of j false e h = absurd h

at_place : (t : List ℕ) (j i : ℕ) → length t ≡ 16 → i < 32 → IsPlace j → cond (leb 128 j) 0 (get_or (t ++ t) (16 * (i / 16) + j) 0) ≡ look t j
at_place t j i long lt h = go (leb 128 j) h
  where
    go : (b : Bool) → T (b || ltb j 16) → cond b 0 (get_or (t ++ t) (16 * (i / 16) + j) 0) ≡ cond b 0 (get_or t j 0)
    go true h = refl
    go false h = of_two t i j long lt (below_of j (ltb j 16) refl h)

pair_is_map : (t js : List ℕ) (i : ℕ) → length t ≡ 16 → i + length js ≤ 32 → Each1 IsPlace js → swz_l w8 16 (t ++ t) i js ≡ map (look t) js
pair_is_map t [] i long h places = refl
pair_is_map t (j ∷ js) i long h places = λ p. at_place t j i long (omega arith) places.0 p ∷ pair_is_map t js (suc i) long (omega arith) places.1 p

pub pair_look_is : (t js : List ℕ) → length t ≡ 16 → length js ≡ 32 → Each1 IsPlace js → swz_l w8 16 (t ++ t) 0 js ≡ map (look t) js
pair_look_is t js ht hj places = pair_is_map t js 0 ht (omega arith) places

-- ---- vectors side by side

-- 16 numbers, one by one
pub sixteen_is : (x : List ℕ) → length x ≡ 16 → x ≡ state_by (slice_index x)
sixteen_is x long = same_number_lists x (state_by (slice_index x)) (long ∙ sym (length-map-range_with_len (slice_index x) 0 16)) (λ i lt. sym (get_or-map-range_with_len (slice_index x) 0 16 i i 0 (omega arith) (omega arith)))

joined_length : (x y : List ℕ) → length x ≡ 16 → length y ≡ 16 → length (x ++ y) ≡ 32
joined_length x y hx hy = omega (arith, length-append x y)

pub joined_is : (x y : List ℕ) → length x ≡ 16 → length y ≡ 16 → pick_l 0 (x ++ y) (range_with_len 0 32) ≡ x ++ y
joined_is x y hx hy = pick_l_whole 0 (x ++ y) 32 (joined_length x y hx hy)

side_by_side : (n x y : List ℕ) → length x ≡ 16 → length y ≡ 16 → n ≡ x ++ y → n ≡ state_by (slice_index x) ++ state_by (slice_index y)
side_by_side n x y hx hy e = e ∙ ap₂ (λ a b. a ++ b) (sixteen_is x hx) (sixteen_is y hy)

pub first_half : (n x y : List ℕ) → length x ≡ 16 → length y ≡ 16 → n ≡ x ++ y → picked n (range_with_len 0 16) ≡ x
first_half n x y hx hy e = ap (λ v. picked v (range_with_len 0 16)) (side_by_side n x y hx hy e) ∙ sym (sixteen_is x hx)

pub second_half : (n x y : List ℕ) → length x ≡ 16 → length y ≡ 16 → n ≡ x ++ y → picked n (range_with_len 16 16) ≡ y
second_half n x y hx hy e = ap (λ v. picked v (range_with_len 16 16)) (side_by_side n x y hx hy e) ∙ sym (sixteen_is y hy)

-- ---- a round

abbrev pub pair_rows : List ℕ
pair_rows = 0 ∷ 5 ∷ 10 ∷ 15 ∷ 4 ∷ 9 ∷ 14 ∷ 3 ∷ 8 ∷ 13 ∷ 2 ∷ 7 ∷ 12 ∷ 1 ∷ 6 ∷ 11 ∷ 16 ∷ 21 ∷ 26 ∷ 31 ∷ 20 ∷ 25 ∷ 30 ∷ 19 ∷ 24 ∷ 29 ∷ 18 ∷ 23 ∷ 28 ∷ 17 ∷ 22 ∷ 27 ∷ []

abbrev pub pair_next_rows : List ℕ
pair_next_rows = 5 ∷ 10 ∷ 15 ∷ 0 ∷ 9 ∷ 14 ∷ 3 ∷ 4 ∷ 13 ∷ 2 ∷ 7 ∷ 8 ∷ 1 ∷ 6 ∷ 11 ∷ 12 ∷ 21 ∷ 26 ∷ 31 ∷ 16 ∷ 25 ∷ 30 ∷ 19 ∷ 20 ∷ 29 ∷ 18 ∷ 23 ∷ 24 ∷ 17 ∷ 22 ∷ 27 ∷ 28 ∷ []

abbrev pub pair_last_rows : List ℕ
pair_last_rows = 15 ∷ 0 ∷ 5 ∷ 10 ∷ 3 ∷ 4 ∷ 9 ∷ 14 ∷ 7 ∷ 8 ∷ 13 ∷ 2 ∷ 11 ∷ 12 ∷ 1 ∷ 6 ∷ 31 ∷ 16 ∷ 21 ∷ 26 ∷ 19 ∷ 20 ∷ 25 ∷ 30 ∷ 23 ∷ 24 ∷ 29 ∷ 18 ∷ 27 ∷ 28 ∷ 17 ∷ 22 ∷ []

abbrev pub pair_third_rows : List ℕ
pair_third_rows = 10 ∷ 15 ∷ 0 ∷ 5 ∷ 14 ∷ 3 ∷ 4 ∷ 9 ∷ 2 ∷ 7 ∷ 8 ∷ 13 ∷ 6 ∷ 11 ∷ 12 ∷ 1 ∷ 26 ∷ 31 ∷ 16 ∷ 21 ∷ 30 ∷ 19 ∷ 20 ∷ 25 ∷ 18 ∷ 23 ∷ 24 ∷ 29 ∷ 22 ∷ 27 ∷ 28 ∷ 17 ∷ []

abbrev pub pair_lanes : List ℕ → List ℕ → List ℕ → List ℕ
pair_lanes o t k = zip2 bit_xor (zip2 bit_xor (zip2 bit_xor (picked t pair_rows) (picked (zip2 bit_xor o t) pair_next_rows)) (zip2 bit_xor (picked o pair_third_rows) (picked o pair_last_rows))) k

lanes_by_place : (o p t u k l : ℕ → ℕ) → pair_lanes (state_by o ++ state_by p) (state_by t ++ state_by u) (state_by k ++ state_by l)
    ≡ round_lanes (state_by o) (state_by t) (state_by k) ++ round_lanes (state_by p) (state_by u) (state_by l)
lanes_by_place o p t u k l = refl

-- what is done to two vectors side by side is done to each
lanes_by_halves : (o p t u k l : List ℕ) → length o ≡ 16 → length p ≡ 16 → length t ≡ 16 → length u ≡ 16 → length k ≡ 16 → length l ≡ 16
    → pair_lanes (o ++ p) (t ++ u) (k ++ l) ≡ round_lanes o t k ++ round_lanes p u l
lanes_by_halves o p t u k l ho hp ht hu hk hl =
    let eo = sixteen_is o ho in
    let ep = sixteen_is p hp in
    let et = sixteen_is t ht in
    let eu = sixteen_is u hu in
    let ek = sixteen_is k hk in
    let el = sixteen_is l hl in
    (λ i. pair_lanes (eo i ++ ep i) (et i ++ eu i) (ek i ++ el i))
    ∙ lanes_by_place (slice_index o) (slice_index p) (slice_index t) (slice_index u) (slice_index k) (slice_index l)
    ∙ sym (λ i. round_lanes (eo i) (et i) (ek i) ++ round_lanes (ep i) (eu i) (el i))

mapped : (f : ℕ → ℕ) (n o s t : List ℕ) → HasBoth n s t → o ≡ map f n → o ≡ map f (map nibbles s) ++ map f (map nibbles t)
mapped f n o s t h e = e ∙ ap (map f) h.both_in_nibbles ∙ map-append f (map nibbles s) (map nibbles t)

long : (f : ℕ → ℕ) (s : List ℕ) → IsState s → length (map f (map nibbles s)) ≡ 16
long f s h = length-map (map nibbles s) f ∙ length-map s nibbles ∙ h.sixteen

alone : (s : List ℕ) → IsState s → HasNibbles (map nibbles s) s
alone s h = record { sixteen_octets = h; in_nibbles = refl }

pub pair_round_is : (n s t key o u k : List ℕ) → HasBoth n s t → IsState key → k ≡ map key_nibbles key ++ map key_nibbles key → o ≡ map once n → u ≡ map twice n
    → HasBoth (pair_lanes o u k) (round s key) (round t key)
pair_round_is n s t key o u k h hk ek eo eu =
    let long_key : length (map key_nibbles key) ≡ 16 = length-map key key_nibbles ∙ hk.sixteen in
    let f = round_is (map nibbles s) s key (map once (map nibbles s)) (map twice (map nibbles s)) (map key_nibbles key) (alone s h.first_octets) hk refl refl refl in
    let g = round_is (map nibbles t) t key (map once (map nibbles t)) (map twice (map nibbles t)) (map key_nibbles key) (alone t h.second_octets) hk refl refl refl in
    record {
      first_octets = f.sixteen_octets;
      second_octets = g.sixteen_octets;
      both_in_nibbles =
          ap₂ (λ a b. pair_lanes a b k) (mapped once n o s t h eo) (mapped twice n u s t h eu)
          ∙ ap (pair_lanes (map once (map nibbles s) ++ map once (map nibbles t)) (map twice (map nibbles s) ++ map twice (map nibbles t))) ek
          ∙ lanes_by_halves (map once (map nibbles s)) (map once (map nibbles t)) (map twice (map nibbles s)) (map twice (map nibbles t)) (map key_nibbles key) (map key_nibbles key)
          (long once s h.first_octets) (long once t h.second_octets) (long twice s h.first_octets) (long twice t h.second_octets) long_key long_key
          ∙ ap₂ (λ a b. a ++ b) f.in_nibbles g.in_nibbles;
    }

-- ---- the last round

turned_by_place : (x y k l : ℕ → ℕ) → zip2 bit_xor (picked (state_by x ++ state_by y) pair_rows) (state_by k ++ state_by l)
    ≡ zip2 bit_xor (picked (state_by x) rows) (state_by k) ++ zip2 bit_xor (picked (state_by y) rows) (state_by l)
turned_by_place x y k l = refl

turned_by_halves : (x y k l : List ℕ) → length x ≡ 16 → length y ≡ 16 → length k ≡ 16 → length l ≡ 16
    → zip2 bit_xor (picked (x ++ y) pair_rows) (k ++ l) ≡ zip2 bit_xor (picked x rows) k ++ zip2 bit_xor (picked y rows) l
turned_by_halves x y k l hx hy hk hl =
    let ex = sixteen_is x hx in
    let ey = sixteen_is y hy in
    let ek = sixteen_is k hk in
    let el = sixteen_is l hl in
    (λ i. zip2 bit_xor (picked (ex i ++ ey i) pair_rows) (ek i ++ el i))
    ∙ turned_by_place (slice_index x) (slice_index y) (slice_index k) (slice_index l)
    ∙ sym (λ i. zip2 bit_xor (picked (ex i) rows) (ek i) ++ zip2 bit_xor (picked (ey i) rows) (el i))

pub pair_last_is : (n s t key z kk : List ℕ) → HasBoth n s t → length key ≡ 16 → z ≡ map substituted n → kk ≡ key ++ key
    → zip2 bit_xor (picked z pair_rows) kk ≡ last_round s key ++ last_round t key
pair_last_is n s t key z kk h hk ez ek =
    ap₂ (λ a b. zip2 bit_xor (picked a pair_rows) b) (mapped substituted n z s t h ez) ek
    ∙ turned_by_halves (map substituted (map nibbles s)) (map substituted (map nibbles t)) key key (long substituted s h.first_octets) (long substituted t h.second_octets) hk hk
    ∙ ap₂ (λ a b. a ++ b) (last_round_is (map nibbles s) s key (map substituted (map nibbles s)) (alone s h.first_octets) hk refl)
    (last_round_is (map nibbles t) t key (map substituted (map nibbles t)) (alone t h.second_octets) hk refl)

-- ---- the first key

zip2-append : (f : ℕ → ℕ → ℕ) (x k y l : List ℕ) → length x ≡ length k → zip2 f (x ++ y) (k ++ l) ≡ zip2 f x k ++ zip2 f y l
zip2-append f [] [] y l e = refl
zip2-append f [] (b ∷ k) y l e = absurd (omega arith)
zip2-append f (a ∷ x) [] y l e = absurd (omega arith)
zip2-append f (a ∷ x) (b ∷ k) y l e = ap (λ r. f a b ∷ r) (zip2-append f x k y l (omega arith))

added_by_halves : (x y k : List ℕ) → length x ≡ 16 → length y ≡ 16 → length k ≡ 16 → zip2 bit_xor (x ++ y) (k ++ k) ≡ zip2 bit_xor x k ++ zip2 bit_xor y k
added_by_halves x y k hx hy hk = zip2-append bit_xor x k y k (hx ∙ sym hk)

pub pair_keyed_is : (x y key xy kk n : List ℕ) → length x ≡ 16 → length y ≡ 16 → ((i : ℕ) → slice_index x i < 256) → ((i : ℕ) → slice_index y i < 256)
    → IsOctets 16 key → xy ≡ x ++ y → kk ≡ key ++ key → n ≡ map nibbles (zip2 bit_xor xy kk) → HasBoth n (add_round_key x key) (add_round_key y key)
pair_keyed_is x y key xy kk n hx hy fx fy hk exy ekk en =
    let f = keyed_is x key (map nibbles (zip2 bit_xor x key)) hx fx hk refl in
    let g = keyed_is y key (map nibbles (zip2 bit_xor y key)) hy fy hk refl in
    record {
      first_octets = f.sixteen_octets;
      second_octets = g.sixteen_octets;
      both_in_nibbles =
          en ∙ ap (map nibbles) (ap₂ (zip2 bit_xor) exy ekk ∙ added_by_halves x y key hx hy hk.0)
          ∙ map-append nibbles (zip2 bit_xor x key) (zip2 bit_xor y key) ∙ ap₂ (λ a b. a ++ b) f.in_nibbles g.in_nibbles;
    }

pub first_of_both : (x y : List ℕ) → length x ≡ 16 → take 16 (x ++ y) ≡ x
first_of_both x y h = ap (λ (n : ℕ). take n (x ++ y)) (sym h) ∙ take-append_seam x y

pub second_of_both : (x y : List ℕ) → length x ≡ 16 → drop 16 (x ++ y) ≡ y
second_of_both x y h = ap (λ (n : ℕ). drop n (x ++ y)) (sym h) ∙ drop-append_seam x y

pub both_keyed_is : (xy key kk n : List ℕ) → IsOctets 32 xy → IsOctets 16 key → kk ≡ key ++ key → n ≡ map nibbles (zip2 bit_xor xy kk)
    → HasBoth n (add_round_key (take 16 xy) key) (add_round_key (drop 16 xy) key)
both_keyed_is xy key kk n h hk ekk en =
    pair_keyed_is (take 16 xy) (drop 16 xy) key xy kk n
    (length-take-le 16 xy (omega (arith, h.0))) (length-drop 16 xy ∙ omega (arith, h.0))
    (each_at (take 16 xy) (Each1-chunk (Fits w8) 0 16 xy h.1)) (λ i. subst (λ (x : ℕ). x < 256) (sym (get_or-drop 16 xy i 0)) (each_at xy h.1 (16 + i)))
    hk (chunk-drop 0 16 xy) ekk en

pub both_as : {n s t u v : List ℕ} → s ≡ u → t ≡ v → HasBoth n s t → HasBoth n u v
both_as {n} {s} {t} {u} {v} es et h = subst (λ x. HasBoth n x v) es (subst (HasBoth n s) et h)

-- ---- a vector twice

pub twice_key_nibbles : (key both kn : List ℕ) → length key ≡ 16 → both ≡ key ++ key → kn ≡ map nibbles (zip2 bit_xor both (replicate 32 0x63)) → kn ≡ map key_nibbles key ++ map key_nibbles key
twice_key_nibbles key both kn long eb e = key_nibbles_is both kn (ap length eb ∙ joined_length key key long long) e ∙ ap (map key_nibbles) eb ∙ map-append key_nibbles key key

pub twice_sub_bytes : (x both n r : List ℕ) → IsOctets 16 x → both ≡ x ++ x → n ≡ map nibbles both → r ≡ map substituted n → r ≡ map sub_byte x ++ map sub_byte x
twice_sub_bytes x both n r h eb en er =
    er ∙ ap (map substituted) (en ∙ ap (map nibbles) eb) ∙ map-map substituted nibbles (x ++ x) ∙ map-append (λ v. substituted (nibbles v)) x x
    ∙ ap₂ (λ a b. a ++ b) (map_sub x h.1) (map_sub x h.1)

pub length_of_map : (f : ℕ → ℕ) (x : List ℕ) → length x ≡ 16 → length (map f x) ≡ 16
length_of_map f x long = length-map x f ∙ long
