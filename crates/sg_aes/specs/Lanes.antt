-- Look-ups of 16 octets at a time, and the substitution by the nibbles of an octet.
use Rattle.std.specs.Prelude.{ℕ, ◌≡◌, ◌<◌, ◌/◌, ◌^◌, List, ◌||◌, nat_le, nat_lt, T, ◌++◌, length, map, slice_index, if◌then◌else◌, bit_and, bit_xor}
use Rattle.sg_aes.specs.declared.vectors.TheConstants.{FROM_LOW, FROM_HIGH, INVERSE, QUOTIENT, FIRST, SECOND, ONCE_FIRST, ONCE_SECOND, TWICE_FIRST, TWICE_SECOND}

-- what a look-up in 16 octets may ask for: a place, or 128 and more, which gives 0
abbrev pub IsPlace : ℕ → Type 0
IsPlace j = T (nat_le 128 j || nat_lt j 16)

abbrev pub look : List ℕ → ℕ → ℕ
look table j = if nat_le 128 j then 0 else slice_index table j

-- the two nibbles of an octet
abbrev pub nibbles : ℕ → ℕ
nibbles v = bit_xor (look FROM_LOW (bit_and v 15)) (look FROM_HIGH (v / 2 ^ 4))

abbrev pub upper : ℕ → ℕ
upper n = n / 2 ^ 4

abbrev pub lower : ℕ → ℕ
lower n = bit_and n 15

abbrev pub either : ℕ → ℕ
either n = bit_xor (upper n) (lower n)

-- the two nibbles whose inverses make the inverse of nibbles n
abbrev pub over_upper : ℕ → ℕ
over_upper n = bit_xor (look INVERSE (upper n)) (look QUOTIENT (lower n))

abbrev pub over_either : ℕ → ℕ
over_either n = bit_xor (look INVERSE (either n)) (look QUOTIENT (lower n))

abbrev pub last_first : ℕ → ℕ
last_first n = bit_xor (look INVERSE (over_upper n)) (either n)

abbrev pub last_second : ℕ → ℕ
last_second n = bit_xor (look INVERSE (over_either n)) (upper n)

-- what the octet of nibbles n is substituted by
abbrev pub substituted : ℕ → ℕ
substituted n = bit_xor (bit_xor (look FIRST (last_first n)) (look SECOND (last_second n))) 0x63

-- the nibbles of that and of twice that, both without the constant that the affine map adds
abbrev pub once : ℕ → ℕ
once n = bit_xor (look ONCE_FIRST (last_first n)) (look ONCE_SECOND (last_second n))

abbrev pub twice : ℕ → ℕ
twice n = bit_xor (look TWICE_FIRST (last_first n)) (look TWICE_SECOND (last_second n))

-- the nibbles of an octet of a round key, with that constant
abbrev pub key_nibbles : ℕ → ℕ
key_nibbles k = nibbles (bit_xor k 0x63)

-- 16 octets
pub record IsState (state : List ℕ) : Type 0 where
  pub sixteen : length state ≡ 16
  pub octets : (i : ℕ) → slice_index state i < 256

-- these are the nibbles of two states, side by side
pub record HasBoth (n s t : List ℕ) : Type 0 where
  pub first_octets : IsState s
  pub second_octets : IsState t
  pub both_in_nibbles : n ≡ map nibbles s ++ map nibbles t
