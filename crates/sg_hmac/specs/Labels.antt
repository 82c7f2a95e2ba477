-- The labels of the keys that MIKEY derives, and those keys (RFC 3830, 4.1.3 and 4.1.4).
use Rattle.std.specs.Prelude.{ℕ, List, ◌∷◌, ◌++◌}
use Rattle.sg_base.specs.Octets.{be}
use Rattle.sg_hmac.specs.Prf.{mikey_prf}

-- a constant, a crypto session's number, the bundle's number and the initiator's random octets
abbrev pub label_of : ℕ → ℕ → ℕ → List ℕ → List ℕ
label_of constant session csb random = be constant 4 ++ session ∷ (be csb 4 ++ random)

-- ---- the constants of a crypto session (4.1.3)

-- of its traffic encryption key, TEK
abbrev pub TRAFFIC_KEY : ℕ
TRAFFIC_KEY = 0x2ad01c64

-- of its salting key
abbrev pub TRAFFIC_SALT : ℕ
TRAFFIC_SALT = 0x39a2c14b

-- ---- the constants of a message's own protection (4.1.4), which has the crypto session's number 255

abbrev pub ENCRYPTION_KEY : ℕ
ENCRYPTION_KEY = 0x150533e1

abbrev pub AUTHENTICATION_KEY : ℕ
AUTHENTICATION_KEY = 0x2d22ac75

abbrev pub MESSAGE_SALT : ℕ
MESSAGE_SALT = 0x29b88916

-- ---- the keys

-- a crypto session's TEK of n octets, and its salt of 14, under a TGK (4.1.3)
abbrev pub traffic_key : List ℕ → ℕ → ℕ → List ℕ → ℕ → List ℕ
traffic_key tgk session csb random n = mikey_prf tgk (label_of TRAFFIC_KEY session csb random) n

abbrev pub traffic_salt : List ℕ → ℕ → ℕ → List ℕ → List ℕ
traffic_salt tgk session csb random = mikey_prf tgk (label_of TRAFFIC_SALT session csb random) 14

-- the keys that protect a message under a pre-shared key (4.1.4)
abbrev pub encryption_key : List ℕ → ℕ → List ℕ → List ℕ
encryption_key key csb random = mikey_prf key (label_of ENCRYPTION_KEY 255 csb random) 16

abbrev pub authentication_key : List ℕ → ℕ → List ℕ → List ℕ
authentication_key key csb random = mikey_prf key (label_of AUTHENTICATION_KEY 255 csb random) 20

abbrev pub message_salt : List ℕ → ℕ → List ℕ → List ℕ
message_salt key csb random = mikey_prf key (label_of MESSAGE_SALT 255 csb random) 14
