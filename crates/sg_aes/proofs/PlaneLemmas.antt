-- What the steps of a round do to planes of bits.
use Rattle.std.proofs.Common.{◌≡◌, ℕ, ◌+◌, ◌*◌, ◌<◌, ◌%◌, ◌/◌, List, [], ◌++◌, refl, ap₂, ap, ◌∙◌, sym, arith, length, map, bit_and, bit_xor, get_or, ◌-◌, inl, inr, subst, ltb, eqb, cond, Bool, false, replicate, w8, ◌^◌, ltb-true, true}
use Rattle.std.specs.Prelude.{slice_index, set, slice_index_or, if◌then◌else◌, ◌==◌}
use Rattle.std.specs.Int.{bit_at}
use Rattle.std.specs.List.{range_with_len}
use Rattle.std.specs.Simd.Lanes.{zip2}
use lib.Lanes.{sel_l, top, Each1}
use mir.Val.{Fits, hbits}
use Rattle.std.proofs.lemmas.Simd.{get_or-zip2, length-zip2, length-replicate, get_or-replicate, tops_compared, length-sel_l, get_or-sel_l}
use Rattle.std.proofs.lemmas.Nat.Bits.{bit_at_xor}
use lib.Bits.{xor_assoc, xor_comm, xor_zero_r}
use Rattle.std.proofs.lemmas.Nat.{xor_of_8}
use Rattle.std.proofs.lemmas.Bool.{cases_lt}
use Rattle.std.proofs.lemmas.List.FromFn.{get_or-map-range_with_len}
use Rattle.std.proofs.lemmas.List.{get_or-append-add, get_or-set_other, length-set, length-map, get_or-map, get_or_append_left}
use Rattle.std.proofs.lemmas.Grind.{get_or-set_at}
use Rattle.sg_aes.specs.KeyExpansion.{round_key}
use Rattle.sg_aes.specs.Field.{sub_byte, times_x}
use Rattle.sg_aes.specs.State.{round, last_round, add_round_key}
use Rattle.sg_aes.specs.Cipher.{rounds}
use Rattle.sg_aes.proofs.Octets.{map_octets, agree, sub_byte_lt}
use Rattle.sg_aes.specs.Lanes.{IsState}
use Rattle.sg_aes.proofs.LaneLemmas.{picked, each_at, row_is, without, without_out, both_without}
use Rattle.sg_aes.specs.Numbered.{numbered}
use Rattle.sg_aes.specs.declared.planes.Planes.{Planes}
use Rattle.sg_aes.specs.Planes.{IsBit, HasPlanes, without_constant, rows, next_rows, half_turned, octet_at, key_at, number_at, ArePlanesIn, AreKeyPlanes}

-- ---- what is done to planes

pub summed_bits : {v w : ℕ → ℕ → ℕ} {a c r : List ℕ} {b : ℕ} → IsBit v a b → IsBit w c b → r ≡ zip2 bit_xor a c → IsBit (λ p j. bit_xor (v p j) (w p j)) r b
summed_bits {v} {w} {a} {c} {r} {b} ha hc e = record {
  long = ap length e ∙ length-zip2 bit_xor a c (ha.long ∙ sym hc.long) ∙ ha.long;
  bits = λ p j hp hj.
      ap (λ x. bit_at (slice_index x p) j) e ∙ ap (λ (n : ℕ). bit_at n j) (get_or-zip2 bit_xor a c p 0 0 0 (omega (arith, ha.long)) (omega (arith, hc.long)))
      ∙ bit_at_xor (slice_index a p) (slice_index c p) j ∙ ap₂ (λ (m n : ℕ). (m + n) % 2) (ha.bits p j hp hj) (hc.bits p j hp hj) ∙ sym (bit_at_xor (v p j) (w p j) b);
}

pub moved : {v : ℕ → ℕ → ℕ} {x r : List ℕ} {b : ℕ} (ks : List ℕ) → length ks ≡ 32 → map (λ p. ltb (slice_index ks p) 32) (range_with_len 0 32) ≡ map (λ _. true) (range_with_len 0 32)
    → IsBit v x b → r ≡ picked x ks → IsBit (λ p j. v (slice_index ks p) j) r b
moved {v} {x} {r} {b} ks long inside h e = record {
  long = ap length e ∙ length-map ks (λ k. get_or (x ++ x) k 0) ∙ long;
  bits = λ p j hp hj.
      let small : slice_index ks p < 32 = ltb-true (slice_index ks p) 32 (agree true (λ p. ltb (slice_index ks p) 32) (λ _. true) 32 inside p hp) in
      ap (λ y. bit_at (slice_index y p) j) e
      ∙ ap (λ (n : ℕ). bit_at n j) (get_or-map (λ k. get_or (x ++ x) k 0) ks p 0 0 (omega (arith, long)) ∙ get_or_append_left x x 0 (slice_index ks p) (omega (arith, h.long, small)))
      ∙ h.bits (slice_index ks p) j small hj;
}

pub retold : {v : ℕ → ℕ → ℕ} {x : List ℕ} (f : ℕ → ℕ) (b c : ℕ) → map (λ n. bit_at n b) (range_with_len 0 256) ≡ map (λ n. bit_at (f n) c) (range_with_len 0 256)
    → ((p j : ℕ) → v p j < 256) → IsBit v x b → IsBit (λ p j. f (v p j)) x c
retold {v} {x} f b c e small h = record { long = h.long; bits = λ p j hp hj. h.bits p j hp hj ∙ agree 0 (λ n. bit_at n b) (λ n. bit_at (f n) c) 256 e (v p j) (small p j) }

pub both_retold : {v : ℕ → ℕ → ℕ} {x y r : List ℕ} (f : ℕ → ℕ) (a b c : ℕ) → map (λ n. (bit_at n a + bit_at n b) % 2) (range_with_len 0 256) ≡ map (λ n. bit_at (f n) c) (range_with_len 0 256)
    → ((p j : ℕ) → v p j < 256) → IsBit v x a → IsBit v y b → r ≡ zip2 bit_xor x y → IsBit (λ p j. f (v p j)) r c
both_retold {v} {x} {y} {r} f a b c t small hx hy e = record {
  long = ap length e ∙ length-zip2 bit_xor x y (hx.long ∙ sym hy.long) ∙ hx.long;
  bits = λ p j hp hj.
      ap (λ z. bit_at (slice_index z p) j) e ∙ ap (λ (n : ℕ). bit_at n j) (get_or-zip2 bit_xor x y p 0 0 0 (omega (arith, hx.long)) (omega (arith, hy.long)))
      ∙ bit_at_xor (slice_index x p) (slice_index y p) j ∙ ap₂ (λ (m n : ℕ). (m + n) % 2) (hx.bits p j hp hj) (hy.bits p j hp hj)
      ∙ agree 0 (λ n. (bit_at n a + bit_at n b) % 2) (λ n. bit_at (f n) c) 256 t (v p j) (small p j);
}

by_rule : {v w : ℕ → ℕ → ℕ} {x : List ℕ} {b : ℕ} → ((p j : ℕ) → p < 32 → j < 8 → v p j ≡ w p j) → IsBit v x b → IsBit w x b
by_rule {v} {w} {x} {b} e h = record { long = h.long; bits = λ p j hp hj. h.bits p j hp hj ∙ ap (λ (n : ℕ). bit_at n b) (e p j hp hj) }

pub planes_by_rule : {v w : ℕ → ℕ → ℕ} {x : Planes} → ((p j : ℕ) → p < 32 → j < 8 → v p j ≡ w p j) → HasPlanes v x → HasPlanes w x
planes_by_rule e h = record { bit0 = by_rule e h.bit0; bit1 = by_rule e h.bit1; bit2 = by_rule e h.bit2; bit3 = by_rule e h.bit3; bit4 = by_rule e h.bit4; bit5 = by_rule e h.bit5; bit6 = by_rule e h.bit6; bit7 = by_rule e h.bit7 }

-- ---- a round

-- a column's octets without the constant, the key's with it
celled_in_planes : (a b c d k r : ℕ) → bit_xor (bit_xor (times_x (bit_xor a b)) b) (bit_xor c d) ≡ r
    → bit_xor (bit_xor (bit_xor (bit_xor (without c) (without d)) (without b)) (times_x (bit_xor (without a) (without b)))) (without k) ≡ bit_xor r k
celled_in_planes a b c d k r e =
    let y = bit_xor c d in
    let m = times_x (bit_xor a b) in
    (λ i. bit_xor (bit_xor (bit_xor (both_without c d i) (without b)) (times_x (both_without a b i))) (without k))
    ∙ ap (λ x. bit_xor (bit_xor x m) (without k)) (sym (xor_assoc y b 0x63))
    ∙ ap (λ x. bit_xor x (without k)) (without_out (bit_xor y b) m)
    ∙ both_without (bit_xor (bit_xor y b) m) k
    ∙ ap (λ x. bit_xor x k) (xor_comm (bit_xor y b) m ∙ ap (bit_xor m) (xor_comm y b) ∙ sym (xor_assoc m b y) ∙ e)

pub octets_small : (s : ℕ → List ℕ) → ((n : ℕ) → IsState (s n)) → (p j : ℕ) → octet_at s p j < 256
octets_small s h p j = (h (8 * (p / 16) + j)).octets (p % 16)

pub boxed_small : (s : ℕ → List ℕ) (p j : ℕ) → without_constant (octet_at s p j) < 256
boxed_small s p j = xor_of_8 (sub_byte (octet_at s p j)) 0x63 (sub_byte_lt (octet_at s p j)) (omega arith)

-- what the steps of a round make of an octet
abbrev boxed_at : (ℕ → List ℕ) → ℕ → ℕ → ℕ
boxed_at s p j = without_constant (octet_at s p j)

abbrev two_at : (ℕ → List ℕ) → ℕ → ℕ → ℕ
two_at s p j = bit_xor (boxed_at s (slice_index rows p) j) (boxed_at s (slice_index next_rows p) j)

abbrev pub round_at : (ℕ → List ℕ) → List ℕ → ℕ → ℕ → ℕ
round_at s k p j = bit_xor (bit_xor (bit_xor (two_at s (slice_index half_turned p) j) (boxed_at s (slice_index next_rows p) j)) (times_x (two_at s p j))) (key_at k p j)

abbrev pub last_at : (ℕ → List ℕ) → List ℕ → ℕ → ℕ → ℕ
last_at s k p j = bit_xor (boxed_at s (slice_index rows p) j) (key_at k p j)

pub round_octets : (s : ℕ → List ℕ) (k : List ℕ) (p j : ℕ) → p < 32 → j < 8 → round_at s k p j ≡ octet_at (λ n. round (s n) k) p j
unfolding round
round_octets s k p j hp hj =
    let o : ℕ → ℕ = λ i. sub_byte (octet_at s i j) in
    let first : ℕ → ℕ = λ p. o (slice_index rows p) in
    let next : ℕ → ℕ = λ p. o (slice_index next_rows p) in
    let half : ℕ → ℕ = λ p. slice_index half_turned p in
    let cell : ℕ → ℕ → ℕ = λ p r. first (4 * (p / 4) + r) in
    celled_in_planes (first p) (next p) (first (half p)) (next (half p)) (slice_index k (p % 16)) _ refl
    ∙ agree 0 (λ p. bit_xor (bit_xor (bit_xor (times_x (bit_xor (first p) (next p))) (next p)) (bit_xor (first (half p)) (next (half p)))) (slice_index k (p % 16))) (λ p. octet_at (λ n. round (s n) k) p j) 32
    (λ z. map (λ p. bit_xor (row_is (p % 4) (cell p 0) (cell p 1) (cell p 2) (cell p 3) (omega arith) (sub_byte_lt _) (sub_byte_lt _) (sub_byte_lt _) (sub_byte_lt _) z) (slice_index k (p % 16))) (range_with_len 0 32)) p hp

pub last_octets : (s : ℕ → List ℕ) (k : List ℕ) (p j : ℕ) → p < 32 → j < 8 → last_at s k p j ≡ octet_at (λ n. last_round (s n) k) p j
unfolding last_round
last_octets s k p j hp hj =
    both_without (sub_byte (octet_at s (slice_index rows p) j)) (slice_index k (p % 16))
    ∙ agree 0 (λ p. bit_xor (sub_byte (octet_at s (slice_index rows p) j)) (slice_index k (p % 16))) (λ p. octet_at (λ n. last_round (s n) k) p j) 32 refl p hp

-- ---- planes from octets

-- what a comparison makes of an octet
abbrev spread : ℕ → ℕ → ℕ
spread bit v = cond (eqb (bit_and v bit) bit) 255 0

spread_is : (b j v : ℕ) → b < 8 → j < 8 → v < 256 → bit_at (spread (2 ^ b) v) j ≡ bit_at v b
spread_is b j v hb hj hv =
    agree 0 (λ v. bit_at (spread (2 ^ b) v) j) (λ v. bit_at v b) 256
    (agree [] (λ j. map (λ v. bit_at (spread (2 ^ b) v) j) (range_with_len 0 256)) (λ j. map (λ v. bit_at v b) (range_with_len 0 256)) 8
    (agree [] (λ b. map (λ j. map (λ v. bit_at (spread (2 ^ b) v) j) (range_with_len 0 256)) (range_with_len 0 8)) (λ b. map (λ j. map (λ v. bit_at v b) (range_with_len 0 256)) (range_with_len 0 8)) 8 refl b hb) j hj) v hv

pub plane_is : (x : List ℕ) (bit b : ℕ) → length x ≡ 32 → Each1 (Fits w8) x → b < 8 → bit ≡ 2 ^ b
    → IsBit (λ p j. slice_index x p) (sel_l (map (top (hbits w8)) (zip2 (λ a b. cond (eqb a b) (2 ^ 8 - 1) 0) (zip2 bit_and x (replicate 32 bit)) (replicate 32 bit))) (replicate 32 255) (replicate 32 0)) b
plane_is x bit b long fits hb eb =
    let met : List ℕ = zip2 bit_and x (replicate 32 bit) in
    let lm : length met ≡ 32 = length-zip2 bit_and x (replicate 32 bit) (long ∙ sym (length-replicate 32 bit)) ∙ long in
    let same = zip2 eqb met (replicate 32 bit) in
    let ls : length same ≡ 32 = length-zip2 eqb met (replicate 32 bit) (lm ∙ sym (length-replicate 32 bit)) ∙ lm in
    let is = ap (λ ms. sel_l ms (replicate 32 255) (replicate 32 0)) (tops_compared w8 eqb met (replicate 32 bit)) in record {
      long = ap length is ∙ length-sel_l same (replicate 32 255) (replicate 32 0) ls ls ∙ ls;
      bits = λ p j hp hj.
          let at_met : slice_index met p ≡ bit_and (slice_index x p) bit =
          get_or-zip2 bit_and x (replicate 32 bit) p 0 0 0 (omega (arith, long)) hp ∙ ap (bit_and (slice_index x p)) (get_or-replicate 32 p bit 0 hp) in
          let at_same : get_or same p false ≡ eqb (bit_and (slice_index x p) bit) bit =
          get_or-zip2 eqb met (replicate 32 bit) p 0 0 false (omega (arith, lm)) hp ∙ ap₂ eqb at_met (get_or-replicate 32 p bit 0 hp) in
          let value : slice_index (sel_l same (replicate 32 255) (replicate 32 0)) p ≡ spread bit (slice_index x p) =
          get_or-sel_l same (replicate 32 255) (replicate 32 0) p 0 (omega (arith, ls)) hp hp
          ∙ (λ i. cond (at_same i) (get_or-replicate 32 p 255 0 hp i) (get_or-replicate 32 p 0 0 hp i)) in
          ap (λ y. bit_at (slice_index y p) j) is
          ∙ ap (λ (n : ℕ). bit_at n j) (value ∙ ap (λ (m : ℕ). spread m (slice_index x p)) eb)
          ∙ spread_is b j (slice_index x p) hb hj (each_at x fits p);
    }

pub numbers_told : (x : List ℕ) (b : ℕ) → length x ≡ 32
    → map (λ p. map (λ j. bit_at (slice_index x p) j) (range_with_len 0 8)) (range_with_len 0 32) ≡ map (λ p. map (λ j. bit_at (number_at p j) b) (range_with_len 0 8)) (range_with_len 0 32) → IsBit number_at x b
numbers_told x b long e = record {
  long = long;
  bits = λ p j hp hj.
      agree 0 (λ j. bit_at (slice_index x p) j) (λ j. bit_at (number_at p j) b) 8
      (agree [] (λ p. map (λ j. bit_at (slice_index x p) j) (range_with_len 0 8)) (λ p. map (λ j. bit_at (number_at p j) b) (range_with_len 0 8)) 32 e p hp) j hj;
}

-- ---- the planes of keys

key_twice : (key : List ℕ) (p : ℕ) → length key ≡ 16 → p < 32 → slice_index (key ++ key) p ≡ slice_index key (p % 16)
key_twice key p long hp = elim (cases_lt p 16) [
  | inl l ↦ get_or_append_left key key 0 p (omega (arith, long)) ∙ ap (slice_index key) (omega arith)
  | inr g ↦
      let place : p ≡ length key + (p - 16) = omega (arith, long) in
      ap (slice_index (key ++ key)) place ∙ get_or-append-add key key (p - 16) 0 ∙ ap (slice_index key) (omega arith)
]

pub key_octets : (key both : List ℕ) (constant p j : ℕ) → length key ≡ 16 → both ≡ key ++ key → length both ≡ 32 → p < 32 → j < 8
    → slice_index (zip2 bit_xor both (replicate 32 constant)) p ≡ bit_xor (slice_index key (p % 16)) constant
key_octets key both constant p j long e lb hp hj =
    get_or-zip2 bit_xor both (replicate 32 constant) p 0 0 0 (omega (arith, lb)) hp
    ∙ ap₂ bit_xor (ap (λ xs. slice_index xs p) e ∙ key_twice key p long hp) (get_or-replicate 32 p constant 0 hp)

pub kept_first : (words : List (List ℕ)) (kept : List (List (List ℕ))) (x : List (List ℕ)) → length kept ≡ 15
    → ArePlanesIn (λ p j. bit_xor (slice_index (round_key words 0) (p % 16)) 0) x → AreKeyPlanes words (set kept 0 x) 1
kept_first words kept x long h =
    let some : 0 < length kept = omega (arith, long) in record {
      room = length-set kept 0 x ∙ long;
      first = subst (ArePlanesIn (λ p j. bit_xor (slice_index (round_key words 0) (p % 16)) 0)) (sym (get_or-set_at kept 0 0 x [] refl some)) h;
      others = λ k kpos below. absurd (omega arith);
    }

pub kept_more : (words : List (List ℕ)) (kept : List (List (List ℕ))) (r : ℕ) (x : List (List ℕ)) → 0 < r → r < 15 → AreKeyPlanes words kept r → ArePlanesIn (key_at (round_key words r)) x → AreKeyPlanes words (set kept r x) (r + 1)
kept_more words kept r x pos lt15 held h =
    let long : r < length kept = omega (arith, held.room) in record {
      room = length-set kept r x ∙ held.room;
      first = subst (ArePlanesIn (λ p j. bit_xor (slice_index (round_key words 0) (p % 16)) 0)) (sym (get_or-set_other kept r 0 x [] (λ same. absurd (omega arith)))) held.first;
      others = λ k kpos below. elim (cases_lt k r) [
        | inl lt ↦ subst (ArePlanesIn (key_at (round_key words k))) (sym (get_or-set_other kept r k x [] (λ same. absurd (omega arith)))) (held.others k kpos lt)
        | inr ge ↦
            let same : k ≡ r = omega arith in
            subst (ArePlanesIn (key_at (round_key words k))) (sym (get_or-set_at kept r k x [] same long)) (subst (λ (n : ℕ). ArePlanesIn (key_at (round_key words n)) x) (sym same) h)
      ];
    }

-- ---- the first key

small_if : (b : Bool) (m : ℕ) → m < 256 → (if b then m else 0) < 256
small_if true m h = h
small_if false m h = omega arith

pub numbered_state : (base : List ℕ) (n : ℕ) → ((i : ℕ) → slice_index base i < 256) → IsState (numbered base n)
numbered_state base n h = record {
  sixteen = refl;
  octets = map_octets (λ i. bit_xor (slice_index base i) (if i == 15 then n % 256 else 0)) (range_with_len 0 16) (λ i. xor_of_8 _ _ (h i) (small_if (i == 15) (n % 256) (omega arith)));
}

pub first_octets : (w : List (List ℕ)) (base both : List ℕ) (p j : ℕ) → length base ≡ 16 → both ≡ base ++ base → p < 32 → j < 8
    → bit_xor (bit_xor (slice_index both p) (number_at p j)) (bit_xor (slice_index (round_key w 0) (p % 16)) 0) ≡ octet_at (λ n. rounds w 0 (numbered base n)) p j
unfolding rounds
first_octets w base both p j long e hp hj =
    let n : ℕ = 8 * (p / 16) + j in
    let k : List ℕ = round_key w 0 in
    let i : ℕ = p % 16 in
    let f : ℕ → ℕ = λ i. bit_xor (slice_index base i) (if i == 15 then n % 256 else 0) in
    let g : ℕ → ℕ = λ i. bit_xor (slice_index (numbered base n) i) (slice_index k i) in
    let whole : n ≡ n % 256 = omega (arith, hp, hj) in
    let octet : slice_index both p ≡ slice_index base i = ap (λ xs. slice_index xs p) e ∙ key_twice base p long hp in
    let inner : slice_index (numbered base n) i ≡ f i = get_or-map-range_with_len f 0 16 i i 0 (omega arith) (omega arith) in
    let outer : slice_index (add_round_key (numbered base n) k) i ≡ g i = get_or-map-range_with_len g 0 16 i i 0 (omega arith) (omega arith) in
    ap₂ bit_xor (ap₂ bit_xor octet (ap (λ (m : ℕ). if i == 15 then m else 0) whole)) (xor_zero_r (slice_index k i))
    ∙ sym (outer ∙ ap (λ (m : ℕ). bit_xor m (slice_index k i)) inner)

-- the words of a schedule are those of its key
pub planes_of_key : (words w : List (List ℕ)) (kept : List (List (List ℕ))) (n : ℕ) → 0 < n → ((r : ℕ) → r < n → round_key words r ≡ round_key w r) → AreKeyPlanes words kept n → AreKeyPlanes w kept n
planes_of_key words w kept n pos same held = record {
  room = held.room;
  first = subst (λ (k : List ℕ). ArePlanesIn (λ p j. bit_xor (slice_index k (p % 16)) 0) (slice_index_or kept 0 [])) (same 0 pos) held.first;
  others = λ r rpos lt. subst (λ (k : List ℕ). ArePlanesIn (key_at k) (slice_index_or kept r [])) (same r lt) (held.others r rpos lt);
}
