-- Octets whose bits stand in planes: bit j of octet p of plane b is bit b of octet v p j. Of sixteen states that is
-- octet p % 16 of state 8 * (p / 16) + j.
use Rattle.std.specs.Prelude.{◌≡◌, ℕ, ◌+◌, ◌-◌, ◌*◌, ◌/◌, ◌%◌, ◌<◌, List, [], ◌∷◌, length, slice_index, slice_index_or, bit_xor, ◌==◌, if◌then◌else◌}
use Rattle.std.specs.Int.{bit_at}
use Rattle.sg_aes.specs.Field.{sub_byte}
use Rattle.sg_aes.specs.KeyExpansion.{round_key, round_keys}
use Rattle.sg_aes.specs.declared.planes.Planes.{Planes}

-- bit j of octet p of the plane is bit b of octet v p j
pub record IsBit (v : ℕ → ℕ → ℕ) (x : List ℕ) (b : ℕ) : Type 0 where
  pub long : length x ≡ 32
  pub bits : (p j : ℕ) → p < 32 → j < 8 → bit_at (slice_index x p) j ≡ bit_at (v p j) b

-- the planes of octets
pub record HasPlanes (v : ℕ → ℕ → ℕ) (x : Planes) : Type 0 where
  pub bit0 : IsBit v x.p0 0
  pub bit1 : IsBit v x.p1 1
  pub bit2 : IsBit v x.p2 2
  pub bit3 : IsBit v x.p3 3
  pub bit4 : IsBit v x.p4 4
  pub bit5 : IsBit v x.p5 5
  pub bit6 : IsBit v x.p6 6
  pub bit7 : IsBit v x.p7 7

-- what the affine map gives without the constant that it adds
abbrev pub without_constant : ℕ → ℕ
without_constant a = bit_xor (sub_byte a) 0x63

-- where the lane at each place comes from as each row is turned left by its number (FIPS 197, 5.1.2), in two states
abbrev pub rows : List ℕ
rows = 0 ∷ 5 ∷ 10 ∷ 15 ∷ 4 ∷ 9 ∷ 14 ∷ 3 ∷ 8 ∷ 13 ∷ 2 ∷ 7 ∷ 12 ∷ 1 ∷ 6 ∷ 11 ∷ 16 ∷ 21 ∷ 26 ∷ 31 ∷ 20 ∷ 25 ∷ 30 ∷ 19 ∷ 24 ∷ 29 ∷ 18 ∷ 23 ∷ 28 ∷ 17 ∷ 22 ∷ 27 ∷ []

-- the same with the octet that comes next in its column
abbrev pub next_rows : List ℕ
next_rows = 5 ∷ 10 ∷ 15 ∷ 0 ∷ 9 ∷ 14 ∷ 3 ∷ 4 ∷ 13 ∷ 2 ∷ 7 ∷ 8 ∷ 1 ∷ 6 ∷ 11 ∷ 12 ∷ 21 ∷ 26 ∷ 31 ∷ 16 ∷ 25 ∷ 30 ∷ 19 ∷ 20 ∷ 29 ∷ 18 ∷ 23 ∷ 24 ∷ 17 ∷ 22 ∷ 27 ∷ 28 ∷ []

-- where the octet two places further in its column stands
abbrev pub half_turned : List ℕ
half_turned = 2 ∷ 3 ∷ 0 ∷ 1 ∷ 6 ∷ 7 ∷ 4 ∷ 5 ∷ 10 ∷ 11 ∷ 8 ∷ 9 ∷ 14 ∷ 15 ∷ 12 ∷ 13 ∷ 18 ∷ 19 ∷ 16 ∷ 17 ∷ 22 ∷ 23 ∷ 20 ∷ 21 ∷ 26 ∷ 27 ∷ 24 ∷ 25 ∷ 30 ∷ 31 ∷ 28 ∷ 29 ∷ []

-- the octets of sixteen states
abbrev pub octet_at : (ℕ → List ℕ) → ℕ → ℕ → ℕ
octet_at s p j = slice_index (s (8 * (p / 16) + j)) (p % 16)

-- the octets of a round key, with the constant that the affine map adds
abbrev pub key_at : List ℕ → ℕ → ℕ → ℕ
key_at k p j = bit_xor (slice_index k (p % 16)) 0x63

-- the octets of sixteen blocks that are 0 but for the last octet, the number of the block
abbrev pub number_at : ℕ → ℕ → ℕ
number_at p j = if p % 16 == 15 then 8 * (p / 16) + j else 0

-- bit i of octet p is f p i
abbrev pub AreBits : (ℕ → ℕ → ℕ) → List ℕ → Type 0
AreBits f x = (length x ≡ 32) × ((p i : ℕ) → p < 32 → i < 8 → bit_at (slice_index x p) i ≡ f p i)

-- octet p is f p
abbrev pub AreOctetsOf : (ℕ → ℕ) → List ℕ → Type 0
AreOctetsOf f x = (length x ≡ 32) × ((p : ℕ) → p < 32 → slice_index x p ≡ f p)

-- the bits of two rows of octets, of which those at places with d in the first are exchanged for those d places lower
-- in the second
abbrev pub below : ℕ → (ℕ → ℕ → ℕ) → (ℕ → ℕ → ℕ) → ℕ → ℕ → ℕ
below d f g p i = if i / d % 2 == 0 then f p i else g p (i - d)

abbrev pub above : ℕ → (ℕ → ℕ → ℕ) → (ℕ → ℕ → ℕ) → ℕ → ℕ → ℕ
above d f g p i = if i / d % 2 == 0 then f p (i + d) else g p i

-- planes as they are kept, in a list
abbrev pub planes_in : List (List ℕ) → Planes
planes_in x = record {
  p0 = slice_index_or x 0 [];
  p1 = slice_index_or x 1 [];
  p2 = slice_index_or x 2 [];
  p3 = slice_index_or x 3 [];
  p4 = slice_index_or x 4 [];
  p5 = slice_index_or x 5 [];
  p6 = slice_index_or x 6 [];
  p7 = slice_index_or x 7 [];
}

abbrev pub ArePlanesIn : (ℕ → ℕ → ℕ) → List (List ℕ) → Type 0
ArePlanesIn v x = HasPlanes v (planes_in x)

-- the planes of the first n round keys of the words
pub record AreKeyPlanes (words : List (List ℕ)) (kept : List (List (List ℕ))) (n : ℕ) : Type 0 where
  pub room : length kept ≡ 15
  pub first : ArePlanesIn (λ p j. bit_xor (slice_index (round_key words 0) (p % 16)) 0) (slice_index_or kept 0 [])
  pub others : (r : ℕ) → 0 < r → r < n → ArePlanesIn (key_at (round_key words r)) (slice_index_or kept r [])

-- the planes of all round keys of a key
abbrev pub ArePlanesOf : List ℕ → List (List (List ℕ)) → Type 0
ArePlanesOf key kept = AreKeyPlanes (round_keys key) kept (length key / 4 + 7)
