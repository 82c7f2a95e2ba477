-- Names of peers.
use Rattle.std.specs.Prelude.{ℕ, Bool, ◌&&◌, List, length, nat_le}
use Rattle.std.specs.List.{list_all}

-- a printing character that isn't a space
abbrev pub is_printing : ℕ → Bool
is_printing octet = nat_le 0x21 octet && nat_le octet 0x7e

-- 1 to 128 printing characters without a space
abbrev pub is_identity : List ℕ → Bool
is_identity octets = (nat_le 1 (length octets) && nat_le (length octets) 128) && list_all is_printing octets
