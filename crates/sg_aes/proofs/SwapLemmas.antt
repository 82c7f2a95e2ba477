-- Octets from planes: three exchanges of bits.
use Rattle.std.proofs.Common.{◌≡◌, ℕ, ◌+◌, ◌-◌, ◌*◌, ◌<◌, ◌%◌, ◌/◌, ◌^◌, List, [], ◌++◌, inl, inr, refl, ap₂, ap, ◌∙◌, sym, arith, length, map, bit_and, bit_xor, min, replicate, subst, w8, Bool, true, false, cond, not, ◌||◌, eqb, ltb-true}
use Rattle.std.specs.Prelude.{slice_index, nat_lt, if◌then◌else◌, ◌&&◌}
use Rattle.std.specs.Int.{bit_at}
use Rattle.std.specs.List.{range_with_len}
use Rattle.std.specs.Simd.Lanes.{zip2, Each1}
use mir.Val.{Fits}
use Rattle.std.proofs.lemmas.Nat.{and_le_r, xor_of_8}
use Rattle.std.proofs.lemmas.Nat.Bits.{bit_at_xor, bit_at_and, bit_at-lt, same_from_bits_below}
use Rattle.std.proofs.lemmas.Simd.{get_or-zip2, length-zip2, get_or-replicate}
use Rattle.std.proofs.lemmas.Bool.{and_parts, cases_lt, eqb-true}
use Rattle.std.proofs.lemmas.Grind.{same_number_lists}
use Rattle.std.proofs.lemmas.List.{length-append, get_or_append_left, get_or-append_right}
use Rattle.sg_aes.specs.Lanes.{IsState}
use Rattle.sg_aes.specs.Planes.{AreBits, AreOctetsOf, above, below, octet_at}
use Rattle.sg_aes.proofs.LaneLemmas.{each_at}
use Rattle.sg_aes.proofs.Octets.{agree}

-- what is exchanged
abbrev moving : ℕ → ℕ → ℕ → ℕ → ℕ
moving s m a b = bit_and (bit_xor (a / 2 ^ s) b) m

abbrev low_of : ℕ → ℕ → ℕ → ℕ → ℕ
low_of s m a b = bit_xor a (moving s m a b * 2 ^ s % 2 ^ 8)

abbrev high_of : ℕ → ℕ → ℕ → ℕ → ℕ
high_of s m a b = bit_xor b (moving s m a b)

abbrev Shifts : ℕ → Type 0
Shifts s = map (λ t. map (λ i. bit_at (t * 2 ^ s % 2 ^ 8) i) (range_with_len 0 8)) (range_with_len 0 256) ≡ map (λ t. map (λ i. if nat_lt i s then 0 else bit_at t (i - s)) (range_with_len 0 8)) (range_with_len 0 256)

shifted_bit : (s : ℕ) → Shifts s → (t i : ℕ) → t < 256 → i < 8 → bit_at (t * 2 ^ s % 2 ^ 8) i ≡ (if nat_lt i s then 0 else bit_at t (i - s))
shifted_bit s e t i ht hi =
    agree 0 (λ i. bit_at (t * 2 ^ s % 2 ^ 8) i) (λ i. if nat_lt i s then 0 else bit_at t (i - s)) 8
    (agree [] (λ t. map (λ i. bit_at (t * 2 ^ s % 2 ^ 8) i) (range_with_len 0 8)) (λ t. map (λ i. if nat_lt i s then 0 else bit_at t (i - s)) (range_with_len 0 8)) 256 e t ht) i hi

abbrev Backs : ℕ → Type 0
Backs s = map (λ a. map (λ i. bit_at (a / 2 ^ s) i) (range_with_len 0 8)) (range_with_len 0 256) ≡ map (λ a. map (λ i. bit_at a (i + s)) (range_with_len 0 8)) (range_with_len 0 256)

back_bit : (s : ℕ) → Backs s → (a i : ℕ) → a < 256 → i < 8 → bit_at (a / 2 ^ s) i ≡ bit_at a (i + s)
back_bit s e a i ha hi =
    agree 0 (λ i. bit_at (a / 2 ^ s) i) (λ i. bit_at a (i + s)) 8
    (agree [] (λ a. map (λ i. bit_at (a / 2 ^ s) i) (range_with_len 0 8)) (λ a. map (λ i. bit_at a (i + s)) (range_with_len 0 8)) 256 e a ha) i hi

moving_lt : (s m a b : ℕ) → m < 256 → moving s m a b < 256
moving_lt s m a b h = omega (arith, h, and_le_r (bit_xor (a / 2 ^ s) b) m)

moving_off : (s m a b i : ℕ) → bit_at m i ≡ 0 → bit_at (moving s m a b) i ≡ 0
moving_off s m a b i e =
    let x = bit_at (bit_xor (a / 2 ^ s) b) i in
    bit_at_and (bit_xor (a / 2 ^ s) b) m i ∙ ap (min x) e ∙ agree 0 (λ x. min x 0) (λ x. 0) 2 refl x (bit_at-lt (bit_xor (a / 2 ^ s) b) i)

moving_on : (s m a b i : ℕ) → Backs s → a < 256 → i < 8 → bit_at m i ≡ 1 → bit_at (moving s m a b) i ≡ (bit_at a (i + s) + bit_at b i) % 2
moving_on s m a b i back ha hi e =
    let x = bit_at (bit_xor (a / 2 ^ s) b) i in
    bit_at_and (bit_xor (a / 2 ^ s) b) m i ∙ ap (min x) e ∙ agree 0 (λ x. min x 1) (λ x. x) 2 refl x (bit_at-lt (bit_xor (a / 2 ^ s) b) i)
    ∙ bit_at_xor (a / 2 ^ s) b i ∙ ap (λ (n : ℕ). (n + bit_at b i) % 2) (back_bit s back a i ha hi)

-- a bit that stays: nothing is added to it
stays : (x y i : ℕ) → bit_at y i ≡ 0 → bit_at (bit_xor x y) i ≡ bit_at x i
stays x y i e = bit_at_xor x y i ∙ (let lt = bit_at-lt x i in omega (arith, e, lt))

-- a bit that another takes the place of
taken : (x y i n : ℕ) → n < 2 → bit_at y i ≡ (n + bit_at x i) % 2 → bit_at (bit_xor x y) i ≡ n
taken x y i n lt e = bit_at_xor x y i ∙ (let lx = bit_at-lt x i in omega (arith, e, lt, lx))

low_first : (s m a b i : ℕ) → Shifts s → m < 256 → i < 8 → nat_lt i s ≡ true → bit_at (low_of s m a b) i ≡ bit_at a i
low_first s m a b i sh hm hi e = stays a (moving s m a b * 2 ^ s % 2 ^ 8) i (shifted_bit s sh (moving s m a b) i (moving_lt s m a b hm) hi ∙ ap (λ t. if t then 0 else bit_at (moving s m a b) (i - s)) e)

low_stays : (s m a b i : ℕ) → Shifts s → m < 256 → i < 8 → nat_lt i s ≡ false → bit_at m (i - s) ≡ 0 → bit_at (low_of s m a b) i ≡ bit_at a i
low_stays s m a b i sh hm hi e off = stays a (moving s m a b * 2 ^ s % 2 ^ 8) i (shifted_bit s sh (moving s m a b) i (moving_lt s m a b hm) hi ∙ ap (λ t. if t then 0 else bit_at (moving s m a b) (i - s)) e ∙ moving_off s m a b (i - s) off)

swap_sum : (x y : ℕ) → x + y ≡ y + x
swap_sum x y = omega arith

low_taken : (s m a b i : ℕ) → Shifts s → Backs s → m < 256 → a < 256 → i < 8 → nat_lt i s ≡ false → bit_at m (i - s) ≡ 1 → i - s + s ≡ i → bit_at (low_of s m a b) i ≡ bit_at b (i - s)
low_taken s m a b i sh back hm ha hi e on again =
    let here : bit_at (moving s m a b) (i - s) ≡ (bit_at a (i - s + s) + bit_at b (i - s)) % 2 = moving_on s m a b (i - s) back ha (omega (arith, hi)) on in
    let turned : (bit_at a (i - s + s) + bit_at b (i - s)) % 2 ≡ (bit_at b (i - s) + bit_at a i) % 2 = ap (λ (n : ℕ). (bit_at a n + bit_at b (i - s)) % 2) again ∙ (let x = bit_at a i in let y = bit_at b (i - s) in ap (λ (n : ℕ). n % 2) (swap_sum x y)) in
    taken a (moving s m a b * 2 ^ s % 2 ^ 8) i (bit_at b (i - s)) (bit_at-lt b (i - s))
    (shifted_bit s sh (moving s m a b) i (moving_lt s m a b hm) hi ∙ ap (λ t. if t then 0 else bit_at (moving s m a b) (i - s)) e ∙ here ∙ turned)

high_stays : (s m a b i : ℕ) → bit_at m i ≡ 0 → bit_at (high_of s m a b) i ≡ bit_at b i
high_stays s m a b i off = stays b (moving s m a b) i (moving_off s m a b i off)

high_taken : (s m a b i : ℕ) → Backs s → a < 256 → i < 8 → bit_at m i ≡ 1 → bit_at (high_of s m a b) i ≡ bit_at a (i + s)
high_taken s m a b i back ha hi on = taken b (moving s m a b) i (bit_at a (i + s)) (bit_at-lt a (i + s)) (moving_on s m a b i back ha hi on)

-- the lanes that an exchange makes
abbrev pub moving_lanes : ℕ → ℕ → List ℕ → List ℕ → List ℕ
moving_lanes s m a b = zip2 bit_and (zip2 bit_xor (zip2 (λ (x y : ℕ). x / 2 ^ y) a (replicate 32 s)) b) (replicate 32 m)

abbrev pub low_lanes : ℕ → ℕ → List ℕ → List ℕ → List ℕ
low_lanes s m a b = zip2 bit_xor a (zip2 (λ (x y : ℕ). x * 2 ^ y % 2 ^ 8) (moving_lanes s m a b) (replicate 32 s))

abbrev pub high_lanes : ℕ → ℕ → List ℕ → List ℕ → List ℕ
high_lanes s m a b = zip2 bit_xor b (moving_lanes s m a b)

zip_at : (f : ℕ → ℕ → ℕ) (x y : List ℕ) (p : ℕ) → length x ≡ 32 → length y ≡ 32 → p < 32 → slice_index (zip2 f x y) p ≡ f (slice_index x p) (slice_index y p)
zip_at f x y p hx hy hp = get_or-zip2 f x y p 0 0 0 (omega (arith, hx)) (omega (arith, hy))

zip_long : (f : ℕ → ℕ → ℕ) (x y : List ℕ) → length x ≡ 32 → length y ≡ 32 → length (zip2 f x y) ≡ 32
zip_long f x y hx hy = length-zip2 f x y (hx ∙ sym hy) ∙ hx

module _ (s m : ℕ) (a b : List ℕ) (ha : length a ≡ 32) (hb : length b ≡ 32) where
  moving_long : length (moving_lanes s m a b) ≡ 32
  moving_long = zip_long bit_and _ _ (zip_long bit_xor _ b (zip_long (λ (x y : ℕ). x / 2 ^ y) a (replicate 32 s) ha refl) hb) refl

  moving_at : (p : ℕ) → p < 32 → slice_index (moving_lanes s m a b) p ≡ moving s m (slice_index a p) (slice_index b p)
  moving_at p hp =
      let d = zip_long (λ (x y : ℕ). x / 2 ^ y) a (replicate 32 s) ha refl in
      zip_at bit_and _ (replicate 32 m) p (zip_long bit_xor _ b d hb) refl hp
      ∙ ap₂ bit_and (zip_at bit_xor _ b p d hb hp ∙ ap (λ (n : ℕ). bit_xor n (slice_index b p)) (zip_at (λ (x y : ℕ). x / 2 ^ y) a (replicate 32 s) p ha refl hp ∙ ap (λ (n : ℕ). slice_index a p / 2 ^ n) (get_or-replicate 32 p s 0 hp))) (get_or-replicate 32 p m 0 hp)

  pub low_long : length (low_lanes s m a b) ≡ 32
  low_long = zip_long bit_xor a _ ha (zip_long (λ (x y : ℕ). x * 2 ^ y % 2 ^ 8) _ (replicate 32 s) moving_long refl)

  pub low_at : (p : ℕ) → p < 32 → slice_index (low_lanes s m a b) p ≡ low_of s m (slice_index a p) (slice_index b p)
  low_at p hp =
      zip_at bit_xor a _ p ha (zip_long (λ (x y : ℕ). x * 2 ^ y % 2 ^ 8) _ (replicate 32 s) moving_long refl) hp
      ∙ ap (bit_xor (slice_index a p)) (zip_at (λ (x y : ℕ). x * 2 ^ y % 2 ^ 8) (moving_lanes s m a b) (replicate 32 s) p moving_long refl hp
      ∙ ap₂ (λ (x y : ℕ). x * 2 ^ y % 2 ^ 8) (moving_at p hp) (get_or-replicate 32 p s 0 hp))

  pub high_long : length (high_lanes s m a b) ≡ 32
  high_long = zip_long bit_xor b _ hb moving_long

  pub high_at : (p : ℕ) → p < 32 → slice_index (high_lanes s m a b) p ≡ high_of s m (slice_index a p) (slice_index b p)
  high_at p hp = zip_at bit_xor b _ p hb moving_long hp ∙ ap (bit_xor (slice_index b p)) (moving_at p hp)

pub swapped_small : (s m : ℕ) (a b : List ℕ) → m < 256 → length a ≡ 32 → length b ≡ 32 → Each1 (Fits w8) a → Each1 (Fits w8) b → (p : ℕ) → p < 32 → (slice_index (low_lanes s m a b) p < 256) × (slice_index (high_lanes s m a b) p < 256)
swapped_small s m a b hm la lb fa fb p hp =
    let x = slice_index a p in
    let y = slice_index b p in
    let t = moving s m x y in (
      subst (λ (n : ℕ). n < 256) (sym (low_at s m a b la lb p hp)) (xor_of_8 x (t * 2 ^ s % 2 ^ 8) (each_at a fa p) (omega arith)),
      subst (λ (n : ℕ). n < 256) (sym (high_at s m a b la lb p hp)) (xor_of_8 y t (each_at b fb p) (moving_lt s m x y hm)),
    )

-- What an exchange s places apart by the mask m needs of a place: where its bit stays or comes from.
abbrev fits_place : Bool → ℕ → ℕ → ℕ → Bool
fits_place true s m i = (nat_lt i s || eqb (bit_at m (i - s)) 0) && (eqb (bit_at m i) 1 && nat_lt (i + s) 8)
fits_place false s m i = not (nat_lt i s) && (eqb (bit_at m (i - s)) 1 && (eqb (bit_at m i) 0 && eqb (i - s + s) i))

abbrev Exchanges : ℕ → ℕ → Type 0
Exchanges s m = map (λ i. fits_place (eqb (i / s % 2) 0) s m i) (range_with_len 0 8) ≡ map (λ _. true) (range_with_len 0 8)

not_so : (b : Bool) → not b ≡ true → b ≡ false
not_so false e = refl
not_so true e = absurd cc

-- the rules of the bits, by the octets
module _ (s m : ℕ) (shifts : Shifts s) (backs : Backs s) (small : m < 256) (exchanges : Exchanges s m) (f g : ℕ → ℕ → ℕ) (a b : List ℕ) (fits : Each1 (Fits w8) a) (ha : AreBits f a) (hb : AreBits g b) where
  at_place : (i : ℕ) → i < 8 → fits_place (eqb (i / s % 2) 0) s m i ≡ true
  at_place i hi = agree true (λ i. fits_place (eqb (i / s % 2) 0) s m i) (λ _. true) 8 exchanges i hi

  module _ (p i : ℕ) (hp : p < 32) (hi : i < 8) where
    abbrev x : ℕ
    x = slice_index a p

    abbrev y : ℕ
    y = slice_index b p

    low_kept : (l : Bool) → nat_lt i s ≡ l → (l || eqb (bit_at m (i - s)) 0) ≡ true → bit_at (low_of s m x y) i ≡ bit_at x i
    low_kept true e h = low_first s m x y i shifts small hi e
    low_kept false e h = low_stays s m x y i shifts small hi e (eqb-true _ _ h)

    low_is : (t : Bool) → fits_place t s m i ≡ true → bit_at (low_of s m x y) i ≡ cond t (f p i) (g p (i - s))
    low_is true h = low_kept (nat_lt i s) refl (and_parts _ _ h).0 ∙ ha.1 p i hp hi
    low_is false h =
        let first = and_parts (not (nat_lt i s)) _ h in
        let second = and_parts (eqb (bit_at m (i - s)) 1) _ first.1 in
        low_taken s m x y i shifts backs small (each_at a fits p) hi (not_so _ first.0) (eqb-true _ _ second.0) (eqb-true _ _ (and_parts (eqb (bit_at m i) 0) _ second.1).1)
        ∙ hb.1 p (i - s) hp (omega (arith, hi))

    high_is : (t : Bool) → fits_place t s m i ≡ true → bit_at (high_of s m x y) i ≡ cond t (f p (i + s)) (g p i)
    high_is true h =
        let second = and_parts (eqb (bit_at m i) 1) _ (and_parts (nat_lt i s || eqb (bit_at m (i - s)) 0) _ h).1 in
        high_taken s m x y i backs (each_at a fits p) hi (eqb-true _ _ second.0) ∙ ha.1 p (i + s) hp (ltb-true (i + s) 8 second.1)
    high_is false h =
        let second = and_parts (eqb (bit_at m (i - s)) 1) _ (and_parts (not (nat_lt i s)) _ h).1 in
        high_stays s m x y i (eqb-true _ _ (and_parts (eqb (bit_at m i) 0) _ second.1).0) ∙ hb.1 p i hp hi

  pub swapped_is : AreBits (below s f g) (low_lanes s m a b) × AreBits (above s f g) (high_lanes s m a b)
  swapped_is = (
    (low_long s m a b ha.0 hb.0, λ p i hp hi. ap (λ (n : ℕ). bit_at n i) (low_at s m a b ha.0 hb.0 p hp) ∙ low_is p i hp hi (eqb (i / s % 2) 0) (at_place i hi)),
    (high_long s m a b ha.0 hb.0, λ p i hp hi. ap (λ (n : ℕ). bit_at n i) (high_at s m a b ha.0 hb.0 p hp) ∙ high_is p i hp hi (eqb (i / s % 2) 0) (at_place i hi)),
  )

-- ---- all three

pub octets_told : (f : ℕ → ℕ → ℕ) (v : ℕ → ℕ) (x : List ℕ) → ((p : ℕ) → p < 32 → slice_index x p < 256) → ((p : ℕ) → v p < 256) → ((p : ℕ) → map (f p) (range_with_len 0 8) ≡ map (bit_at (v p)) (range_with_len 0 8)) → AreBits f x → AreOctetsOf v x
octets_told f v x fits small e h = (
  h.0,
  λ p hp.
      same_from_bits_below 8 (slice_index x p) (v p) (fits p hp) (small p) (λ i hi. h.1 p i hp hi ∙ agree 0 (f p) (bit_at (v p)) 8 (e p) i hi),
)

-- two states side by side
pub states_beside : (s : ℕ → List ℕ) (j : ℕ) (x : List ℕ) → ((n : ℕ) → IsState (s n)) → j < 8 → AreOctetsOf (λ p. octet_at s p j) x → x ≡ s j ++ s (8 + j)
states_beside s j x hs lt h =
    let one : List ℕ = s j in
    let other : List ℕ = s (8 + j) in
    let long : length one ≡ 16 = (hs j).sixteen in
    let long2 : length other ≡ 16 = (hs (8 + j)).sixteen in
    let both : length (one ++ other) ≡ 32 = length-append one other ∙ omega (arith, long, long2) in
    same_number_lists x (one ++ other) (h.0 ∙ sym both) (λ p hp.
    let in32 : p < 32 = omega (arith, hp, h.0) in
    h.1 p in32
    ∙ elim (cases_lt p 16) [
      | inl l ↦
          let q : 8 * (p / 16) + j ≡ j = omega arith in
          let r : p % 16 ≡ p = omega arith in
          (λ i. slice_index (s (q i)) (r i)) ∙ sym (get_or_append_left one other 0 p (omega (arith, long)))
      | inr g ↦
          let q : 8 * (p / 16) + j ≡ 8 + j = omega arith in
          let r : p % 16 ≡ p - 16 = omega arith in
          (λ i. slice_index (s (q i)) (r i)) ∙ sym (get_or-append_right one other 16 p 0 long g)
    ])
