-- Policies of SRTP (RFC 3830, 6.10.1), in this gateway's profile.
use Rattle.std.specs.Prelude.{ℕ, ◌/◌, ◌%◌, List, [], ◌∷◌, length, Bool, true, false, not, Option, Some, None, is_some, nat_le, ◌==◌, ◌&&◌, if◌then◌else◌}
use Rattle.std.specs.List.{find, list_all, list_any}
use Rattle.sg_base.specs.Fields.{◌>>=◌}
use Rattle.sg_base.specs.Octets.{number_of}
use Rattle.sg_base.specs.declared.suites.Suite.{Suite}
use Rattle.sg_base.specs.declared.suites.Suite.TheVariants.{Cm128Tag80, Cm128Tag32, Cm192Tag80, Cm192Tag32, Cm256Tag80, Cm256Tag32}
use Rattle.sg_csmap.specs.declared.policies.Protection.{Protection}
use Rattle.sg_mikey.specs.declared.policy.Policy.{Policy}

-- A type of a policy's items: its number, the values that are served, and whether 8 times such a value, a
-- length in bits, means that value too.
pub record Row : Type 0 where
  pub kind : ℕ
  pub served : List ℕ
  pub in_bits : Bool

abbrev pub row : ℕ → List ℕ → Bool → Row
row kind served in_bits = record { kind = kind; served = served; in_bits = in_bits }

abbrev pub rows : List Row
rows =
    row 0 (1 ∷ []) false  -- cipher: AES in counter mode
    ∷ row 1 (16 ∷ 24 ∷ 32 ∷ []) true  -- octets of the encryption key
    ∷ row 2 (1 ∷ []) false  -- authentication: HMAC-SHA-1
    ∷ row 3 (20 ∷ []) true  -- octets of the authentication key
    ∷ row 4 (14 ∷ []) true  -- octets of the salt
    ∷ row 5 (0 ∷ []) false  -- pseudo-random function
    ∷ row 6 (0 ∷ []) false  -- derivation rate
    ∷ row 7 (0 ∷ 1 ∷ []) false  -- encryption of SRTP
    ∷ row 8 (0 ∷ 1 ∷ []) false  -- encryption of SRTCP
    ∷ row 9 (0 ∷ []) false  -- order of forward error correction
    ∷ row 10 (1 ∷ []) false  -- authentication of SRTP
    ∷ row 11 (10 ∷ 4 ∷ []) true  -- octets of the tag
    ∷ row 12 (0 ∷ []) false  -- octets of the prefix
    ∷ []

abbrev pub is_served : Row → ℕ → Bool
is_served r n = list_any (λ v. v == n) r.served

-- the value that a number means
abbrev pub value_in : Row → ℕ → Option ℕ
value_in r n =
    if is_served r n then Some n
    else if r.in_bits && (n % 8 == 0) && is_served r (n / 8) then Some (n / 8)
    else None

-- the value that a number means in a type
unfoldable pub meaning : ℕ → ℕ → Option ℕ
meaning kind n = find (λ (r : Row). r.kind == kind) rows >>= λ r. value_in r n

abbrev pub is_short : List ℕ → Bool
is_short value = nat_le 1 (length value) && nat_le (length value) 4

-- what an item says: a value of its type, in one to four octets
unfoldable pub said_by : ℕ × List ℕ → Option ℕ
said_by item = if is_short item.1 then meaning item.0 (number_of item.1) else None

abbrev pub has_kind : ℕ → List (ℕ × List ℕ) → Bool
has_kind kind items = list_any (λ item. item.0 == kind) items

-- no type stands twice
unfoldable pub each_once : List (ℕ × List ℕ) → Bool
each_once [] = true
each_once (item ∷ items) = not (has_kind item.0 items) && each_once items

-- every item is served, and no type stands twice
abbrev pub are_served : List (ℕ × List ℕ) → Bool
are_served items = list_all (λ item. is_some (said_by item)) items && each_once items

-- what is said, or the default
abbrev pub said_or : ℕ → Option ℕ → ℕ
said_or default None = default
said_or default (Some value) = value

-- the value of a type, where it is said, and else its default
unfoldable pub value_of : List (ℕ × List ℕ) → ℕ → ℕ → ℕ
value_of items kind default = said_or default (find (λ item. item.0 == kind) items >>= said_by)

-- the suite of a key's length and a tag's length
abbrev pub suite_of : ℕ → ℕ → Suite
suite_of key_len tag_len =
    if key_len == 16 then (if tag_len == 10 then Cm128Tag80 else Cm128Tag32)
    else if key_len == 24 then (if tag_len == 10 then Cm192Tag80 else Cm192Tag32)
    else (if tag_len == 10 then Cm256Tag80 else Cm256Tag32)

-- By default a key has 16 octets and a tag ten, and both RTP and RTCP are encrypted.
abbrev pub protection_by : List (ℕ × List ℕ) → Protection
protection_by items = record {
  suite = suite_of (value_of items 1 16) (value_of items 11 10);
  plain_rtp = value_of items 7 1 == 0;
  plain_rtcp = value_of items 8 1 == 0;
}

-- what a policy means; nothing, where it says a type twice, or what isn't served
unfoldable pub protection_of : Policy → Option Protection
protection_of policy = if are_served policy.items then Some (protection_by policy.items) else None
