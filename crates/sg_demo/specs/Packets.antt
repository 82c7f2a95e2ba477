-- The plain packets of the demonstration.
use Rattle.std.specs.Prelude.{ℕ, ◌-◌, ◌*◌, ◌%◌, ◌^◌, List, [], ◌∷◌, ◌++◌, length, take, drop, map, replicate, bit_xor}
use Rattle.sg_base.specs.Octets.{be}

-- a packet: a head without sources and extension (RFC 3550, 5.1), and 160 times one octet
unfoldable pub packet_of : ℕ → ℕ → ℕ → ℕ → List ℕ
packet_of seq time ssrc octet = ((((128 ∷ 0 ∷ []) ++ be seq 2) ++ be time 4) ++ be ssrc 4) ++ replicate 160 octet

-- the n-th packet of a source; the time goes on by 160 a packet
abbrev pub packet : ℕ → ℕ → List ℕ
packet ssrc n = packet_of (n % 2 ^ 16) (160 * n % 2 ^ 32) ssrc (n % 256)

-- the octets with the lowest bit of the last one changed
unfoldable pub with_last_bit_changed : List ℕ → List ℕ
with_last_bit_changed d = take (length d - 1) d ++ map (λ x. bit_xor x 1) (drop (length d - 1) d)
