-- The texts of numbers, suites, keys, lifetimes and MKIs (RFC 4568, sections 4.1, 6.1, 6.2 and 9.2).
use Rattle.std.specs.Prelude.{ℕ, ◌+◌, ◌-◌, ◌^◌, List, length, drop, Bool, Option, Some, None, option_map, Result, Ok, Err, nat_le, nat_lt, nat_eq, ◌==◌, ◌&&◌, if◌then◌else◌, codes}
use Rattle.std.specs.List.{list_all, starts_with}
use Rattle.std.specs.Char.{is_ascii_digit}
use Rattle.std.specs.Str.Parse.{digits_value}
use Rattle.base64.specs.GeneralPurpose.{decode_of}
use Rattle.base64.specs.Engines.{standard, standard_no_pad}
use Rattle.sg_base.specs.declared.Suite.{Suite}
use Rattle.sg_base.specs.Fields.{◌>>=◌, number_at, cut_at}
use Rattle.sg_base.specs.Keys.{Master, master_of}
use Rattle.sg_base.specs.Mkis.{MkiValue, mki_of}
use Rattle.sg_base.specs.Suites.{is_raw, key_len_of, salt_len_of}
use Rattle.sg_base.specs.SuiteNames.{suite_at}

-- one to nine digits, of which the first may be zeros
unfoldable pub digits_at : List ℕ → Option ℕ
digits_at text = if nat_le 1 (length text) && nat_le (length text) 9 && list_all is_ascii_digit text then Some (digits_value 10 text) else None

-- the suites of crypto lines: all but the raw form
unfoldable pub crypto_suite_at : List ℕ → Option Suite
crypto_suite_at text = do
  suite ← suite_at text
  if is_raw suite then None else Some suite

abbrev pub or_else : {A E : Type 0} → Result A E → Option A → Option A
or_else (Ok x) other = Some x
or_else (Err e) other = other

abbrev pub ok_of : {A E : Type 0} → Result A E → Option A
ok_of (Ok x) = Some x
ok_of (Err e) = None

-- base64 with all its closing `=`, or with none; its unused bits are 0 (RFC 4648, sections 3.5 and 4)
unfoldable pub base64_at : List ℕ → Option (List ℕ)
base64_at text = or_else (decode_of standard text) (ok_of (decode_of standard_no_pad text))

-- a key and its salt, as many octets as the suite has
unfoldable pub key_at : Suite → List ℕ → Option Master
key_at suite text = do
  octets ← base64_at text
  if length octets == key_len_of suite + salt_len_of suite then Some (master_of suite octets) else None

-- a number from 1, or a power of two, of at most 2^48
unfoldable pub lifetime_at : List ℕ → Option ℕ
lifetime_at text =
    if starts_with nat_eq text (codes "2^") then option_map (λ n. 2 ^ n) (number_at 48 (drop 2 text))
    else (number_at (2 ^ 48) text >>= λ n. if n == 0 then None else Some n)

-- 1 to 128 octets, and a value that fits them
abbrev pub is_mki : ℕ → ℕ → Bool
is_mki value size = nat_le 1 size && nat_le size 128 && nat_lt value (256 ^ size)

-- a value below 2^128 and its length, with a colon between
unfoldable pub mki_at : List ℕ → Option MkiValue
mki_at text = do
  parts ← cut_at 58 text
  value ← number_at (2 ^ 128 - 1) parts.0
  size ← number_at 128 parts.1
  if is_mki value size then Some (mki_of value size) else None
