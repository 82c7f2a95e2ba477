-- HMAC over SHA-1 (RFC 2104). SHA-1 hashes blocks of 64 octets, and its digest has 20.
use Rattle.std.specs.Prelude.{ℕ, ◌-◌, List, ◌++◌, length, map, replicate, bit_xor, nat_lt, if◌then◌else◌}
use Rattle.sha1.specs.Sha1.{sha1}

-- a key longer than a block is hashed first (section 2)
abbrev pub short_key : List ℕ → List ℕ
short_key key = if nat_lt 64 (length key) then sha1 key else key

-- zeros at its end make the key a block (section 2, step 1)
abbrev pub filled : List ℕ → List ℕ
filled key = key ++ replicate (64 - length key) 0

-- the key's block, each octet of it XORed with the pad (section 2, steps 2 and 5)
abbrev pub padded_key : ℕ → List ℕ → List ℕ
padded_key pad key = map (λ x. bit_xor x pad) (filled (short_key key))

-- H(K XOR opad, H(K XOR ipad, text)), where ipad repeats 36 and opad 5c in hex (section 2)
unfoldable pub hmac_sha1 : List ℕ → List ℕ → List ℕ
hmac_sha1 key text = sha1 (padded_key 0x5c key ++ sha1 (padded_key 0x36 key ++ text))
