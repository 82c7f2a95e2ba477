-- What the values in code stand for.
use Rattle.std.specs.Prelude.{◌≡◌, ℕ, List, ◌++◌, replicate, MatchOption}
use Rattle.sha1.specs.Sha1.{Holds}
use Rattle.sg_hmac.specs.Hmac.{filled, padded_key, short_key}
use Rattle.sg_hmac.specs.declared.hmac.Pads.{Pads}
use Rattle.sg_hmac.specs.declared.hmac.MacKey.{MacKey}
use Rattle.sg_hmac.specs.declared.hmac.Mac.{Mac}

-- both padded blocks of this key are hashed
pub record AreHashed (octets : List ℕ) (pads : Pads) : Type 0 where
  pub inner : Holds pads.inner (padded_key 0x36 octets)
  pub outer : Holds pads.outer (padded_key 0x5c octets)

-- the value is this key: its blocks are hashed, or there are none and the key is zeros
abbrev pub IsMacKey : List ℕ → MacKey → Type 0
IsMacKey octets key = MatchOption key.pads (filled (short_key octets) ≡ replicate 64 0) (AreHashed octets)

-- the value covers this text under this key
pub record Covers (octets text : List ℕ) (mac : Mac) : Type 0 where
  pub inner : Holds mac.inner (padded_key 0x36 octets ++ text)
  pub outer : Holds mac.outer (padded_key 0x5c octets)

-- the tag is a prefix of the whole
abbrev pub IsTagOf : List ℕ → List ℕ → Type 0
IsTagOf tag whole = (rest : List ℕ) × (whole ≡ tag ++ rest)
