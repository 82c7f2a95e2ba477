-- Numbers in octets, the highest octet first.
use Rattle.std.specs.Prelude.{ℕ, ◌+◌, ◌*◌, List, slice_index}

-- the number of two octets from this place on
abbrev pub u16_at : List ℕ → ℕ → ℕ
u16_at octets place = slice_index octets place * 256 + slice_index octets (place + 1)

-- the number of four
abbrev pub u32_at : List ℕ → ℕ → ℕ
u32_at octets place = u16_at octets place * 65536 + u16_at octets (place + 2)
