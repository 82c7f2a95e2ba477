-- Time stamps: seconds since 1900 and a fraction of 32 bits (RFC 3830, 6.6; RFC 1305, 3.1).
use Rattle.std.specs.Prelude.{ℕ, ◌+◌, ◌-◌, ◌*◌, ◌/◌, ◌%◌, ◌^◌, List, ◌++◌, take, drop, ℤ, pos, ◌-ℤ◌, Bool, nat_lt}
use Rattle.sg_base.specs.Octets.{be, number_of}

-- the stamp of a moment in milliseconds since 1970, which is 2,208,988,800 seconds after 1900
unfoldable pub stamp_of : ℕ → List ℕ
stamp_of now = be (now / 1000 + 2208988800) 4 ++ be ((now % 1000) * 2 ^ 32 / 1000) 4

-- a stamp in milliseconds since 1900, rounded down
abbrev pub since_1900 : List ℕ → ℕ
since_1900 stamp = number_of (take 4 stamp) * 1000 + number_of (drop 4 stamp) * 1000 / 2 ^ 32

-- the moment that a stamp reads as, in milliseconds since 1970
unfoldable pub moment_of : List ℕ → ℤ
moment_of stamp = pos (since_1900 stamp) -ℤ pos 2208988800000

-- how far two numbers are apart
abbrev pub distance : ℕ → ℕ → ℕ
distance a b = (a - b) + (b - a)

-- more than five minutes from a moment, before it or after it (5.4)
abbrev pub is_skewed : List ℕ → ℕ → Bool
is_skewed stamp now = nat_lt 300000 (distance (since_1900 stamp) (now + 2208988800000))
