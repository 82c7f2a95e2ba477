-- The keys inside a KEMAC: one to eight key data payloads that fill it (RFC 3830, 6.13 and 6.14).
use Rattle.std.specs.Prelude.{ℕ, zero, suc, List, [], ◌∷◌, ◌++◌, length, take, drop, Bool, true, Option, Some, None, option_map, nat_le, nat_lt, ◌==◌, ◌&&◌, ◌||◌, ◌^◌, if◌then◌else◌}
use Rattle.std.specs.List.{list_all}
use Rattle.sg_base.specs.Fields.{◌>>=◌}
use Rattle.sg_base.specs.Mkis.{MkiValue, mki_of, mkis_differ}
use Rattle.sg_base.specs.Octets.{be, number_of}
use Rattle.sg_mikey.specs.declared.message.Tgk.{Tgk}

-- so many octets, and those behind them
unfoldable pub octets_at : ℕ → List ℕ → Option (List ℕ × List ℕ)
octets_at count octets = if nat_lt (length octets) count then None else Some (take count octets, drop count octets)

unfoldable pub octet_at : List ℕ → Option (ℕ × List ℕ)
octet_at [] = None
octet_at (x ∷ xs) = Some (x, xs)

-- an SPI of these octets: 1 to 128 of a value below 2^128, which is the MKI of SRTP (6.14)
unfoldable pub spi_of : List ℕ → Option MkiValue
spi_of spi =
    if nat_le 1 (length spi) && nat_le (length spi) 128 && nat_lt (number_of spi) (2 ^ 128)
    then Some (mki_of (number_of spi) (length spi))
    else None

-- an SPI behind its length
unfoldable pub spi_at : List ℕ → Option (MkiValue × List ℕ)
spi_at octets = do
  size ← octet_at octets
  spi ← octets_at size.0 size.1
  value ← spi_of spi.0
  Some (value, spi.1)

-- a key data payload: the number of the next one, the key with its SPI, and the octets behind
pub record KeyPart : Type 0 where
  pub next : ℕ
  pub tgk : Tgk
  pub rest : List ℕ

abbrev pub key_part : ℕ → List ℕ → Option MkiValue → List ℕ → KeyPart
key_part next key spi rest = record { next = next; tgk = record { key = key; spi = spi }; rest = rest }

-- what stands behind a key: nothing with validity 0, an SPI with validity 1
unfoldable pub validity_at : ℕ → List ℕ → Option (Option MkiValue × List ℕ)
validity_at form octets =
    if form == 0 then Some (None, octets)
    else if form == 1 then (spi_at octets >>= λ spi. Some (Some spi.0, spi.1))
    else None

-- The next payload's number is 20 or, at the last, 0.
abbrev pub is_next : ℕ → Bool
is_next number = number == 0 || number == 20

abbrev pub is_key_length : ℕ → Bool
is_key_length count = nat_le 16 count && nat_le count 64

-- Behind the next payload's number stand a type in four bits, 0 for a TGK, and a validity in four; then a
-- length and a key of 16 to 64 octets.
unfoldable pub key_part_at : List ℕ → Option KeyPart
key_part_at octets = do
  next ← octet_at octets
  form ← octet_at next.1
  size ← octets_at 2 form.1
  key ← octets_at (number_of size.0) size.1
  validity ← validity_at form.0 key.1
  if is_next next.0 && is_key_length (number_of size.0) then Some (key_part next.0 key.0 validity.0 validity.1) else None

-- at most so many payloads, up to the last, behind which nothing stands
unfoldable pub keys_at : ℕ → List ℕ → Option (List Tgk)
keys_at zero octets = None
keys_at (suc more) octets =
    key_part_at octets >>= λ part.
    if part.next == 0 then (if length part.rest == 0 then Some (part.tgk ∷ []) else None)
    else option_map (λ others. part.tgk ∷ others) (keys_at more part.rest)

abbrev pub differs : Tgk → Tgk → Bool
differs k l = mkis_differ k.spi l.spi

-- several keys all have SPIs of one length, each with a value of its own
unfoldable pub all_differ : List Tgk → Bool
all_differ [] = true
all_differ (k ∷ ks) = list_all (differs k) ks && all_differ ks

-- the keys that the octets spell
unfoldable pub tgks_of : List ℕ → Option (List Tgk)
tgks_of octets = keys_at 8 octets >>= λ keys. if all_differ keys then Some keys else None

-- the spelling of one key without an SPI
abbrev pub key_text : List ℕ → List ℕ
key_text key = 0 ∷ 0 ∷ (be (length key) 2 ++ key)
