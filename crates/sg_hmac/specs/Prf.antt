-- MIKEY's pseudo-random function, MIKEY-1 (RFC 3830, 4.1.2).
use Rattle.std.specs.Prelude.{ℕ, zero, suc, ◌+◌, ◌/◌, List, [], ◌∷◌, ◌++◌, length, take, drop, replicate}
use Rattle.sg_base.specs.Octets.{xor_octets}
use Rattle.sg_hmac.specs.Hmac.{hmac_sha1}

-- A_0 is the label, and A_i the MAC of the one before
abbrev pub chained : List ℕ → List ℕ → ℕ → List ℕ
chained secret label zero = label
chained secret label (suc i) = hmac_sha1 secret (chained secret label i)

-- P(s, label, m): m MACs joined, each of an A_i, from A_1 on, and the label
abbrev pub joined_macs : List ℕ → List ℕ → ℕ → List ℕ
joined_macs secret label zero = []
joined_macs secret label (suc i) = joined_macs secret label i ++ hmac_sha1 secret (chained secret label (suc i) ++ label)

-- the first n octets of P; a MAC has 20
abbrev pub expanded : List ℕ → List ℕ → ℕ → List ℕ
expanded secret label n = take n (joined_macs secret label ((n + 19) / 20))

-- the in-key cut into so many blocks of 32 octets, of which the last may be shorter
abbrev pub blocks_of : ℕ → List ℕ → List (List ℕ)
blocks_of zero secret = []
blocks_of (suc more) secret = take 32 secret ∷ blocks_of more (drop 32 secret)

-- the P's of the blocks, joined by XOR
abbrev pub under_blocks : List (List ℕ) → List ℕ → ℕ → List ℕ
under_blocks [] label n = replicate n 0
under_blocks (block ∷ blocks) label n = xor_octets (expanded block label n) (under_blocks blocks label n)

-- the first n octets that the function makes of an in-key and a label
unfoldable pub mikey_prf : List ℕ → List ℕ → ℕ → List ℕ
mikey_prf secret label n = under_blocks (blocks_of ((length secret + 31) / 32) secret) label n
