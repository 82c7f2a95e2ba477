-- The gateway's own policy of SRTP (RFC 3830, 6.10.1).
use Rattle.std.specs.Prelude.{ℕ, List, [], ◌∷◌, map}
use Rattle.sg_mikey.specs.declared.policy.Policy.{Policy}

-- each type of an item, and the default of its value
abbrev pub defaults : List (ℕ × ℕ)
defaults =
    (0, 1)  -- cipher: AES in counter mode
    ∷ (1, 16)  -- octets of the encryption key
    ∷ (2, 1)  -- authentication: HMAC-SHA-1
    ∷ (3, 20)  -- octets of the authentication key
    ∷ (4, 14)  -- octets of the salt
    ∷ (5, 0)  -- pseudo-random function
    ∷ (6, 0)  -- derivation rate
    ∷ (7, 1)  -- encryption of SRTP
    ∷ (8, 1)  -- encryption of SRTCP
    ∷ (9, 0)  -- order of forward error correction
    ∷ (10, 1)  -- authentication of SRTP
    ∷ (11, 10)  -- octets of the tag
    ∷ (12, 0)  -- octets of the prefix
    ∷ []

-- each of them in one octet
abbrev pub own_policy : Policy
own_policy = record { number = 0; items = map (λ (v : ℕ × ℕ). (v.0, v.1 ∷ [])) defaults }
