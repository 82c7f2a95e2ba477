-- Fields that several grammars share. Each is read from all of its text, and has one spelling.
use Rattle.std.specs.Prelude.{◌≡◌, ℕ, ◌+◌, ◌*◌, ◌-◌, ◌≤◌, List, [], ◌∷◌, ◌++◌, length, slice_index, codes, decimal, Option, Some, None, option_map, option_and_then, nat_le, ◌==◌, ◌&&◌, false, if◌then◌else◌}
use Rattle.std.specs.List.{AllByRecursion}
use Rattle.std.specs.Str.{bytes_eq}
use Rattle.std.specs.Str.Parse.{digits_value}
use Rattle.sg_base.specs.declared.addresses.Address.{Address}

infixl 10 ◌>>=◌
abbrev pub ◌>>=◌ : {A B : Type 0} → Option A → (A → Option B) → Option B
read >>= next = option_and_then next read

-- The number of at most `most` whose decimal spelling the text is: digits without a sign, and without
-- a leading zero but for 0 itself.
unfoldable pub number_at : ℕ → List ℕ → Option ℕ
number_at most text =
    if bytes_eq (decimal (digits_value 10 text)) text && nat_le (digits_value 10 text) most then Some (digits_value 10 text) else None

-- what stands before the first octet of that value, and what stands behind it
unfoldable pub cut_at : ℕ → List ℕ → Option (List ℕ × List ℕ)
cut_at octet [] = None
cut_at octet (x ∷ xs) = if x == octet then Some ([], xs) else option_map (λ parts. (x ∷ parts.0, parts.1)) (cut_at octet xs)

-- the octet of that value doesn't stand in the text
abbrev pub Lacks : ℕ → List ℕ → Type 0
Lacks octet text = AllByRecursion (λ x. (x == octet) ≡ false) text

-- the value of a lower-case hexadecimal digit
abbrev pub lower_digit : ℕ → Option ℕ
lower_digit digit =
    if nat_le 48 digit && nat_le digit 57 then Some (digit - 48)
    else if nat_le 97 digit && nat_le digit 102 then Some (digit - 87)
    else None

-- the octets of pairs of lower-case hexadecimal digits
unfoldable pub octets_at : List ℕ → Option (List ℕ)
octets_at [] = Some []
octets_at (high ∷ []) = None
octets_at (high ∷ low ∷ rest) =
    option_and_then (λ h. option_and_then (λ l. option_map (λ octets. (h * 16 + l) ∷ octets) (octets_at rest)) (lower_digit low)) (lower_digit high)

-- four numbers of at most 255 joined by full stops
unfoldable pub four_at : List ℕ → Option (List ℕ)
four_at text = do
  first ← cut_at 46 text
  second ← cut_at 46 first.1
  third ← cut_at 46 second.1
  a ← number_at 255 first.0
  b ← number_at 255 second.0
  c ← number_at 255 third.0
  d ← number_at 255 third.1
  Some (a ∷ b ∷ c ∷ d ∷ [])

-- four numbers, a colon and a port
unfoldable pub address_at : List ℕ → Option Address
address_at text = do
  parts ← cut_at 58 text
  ip ← four_at parts.0
  port ← number_at 65535 parts.1
  Some (record { ip = ip; port = port })

-- the spelling of four numbers
abbrev pub four_text : List ℕ → List ℕ
four_text ip =
    decimal (slice_index ip 0) ++ codes "." ++ decimal (slice_index ip 1) ++ codes "." ++ decimal (slice_index ip 2) ++ codes "."
    ++ decimal (slice_index ip 3)

-- the spelling of an address
abbrev pub address_text : Address → List ℕ
address_text a = four_text a.ip ++ codes ":" ++ decimal a.port

-- four octets
pub record IsFour (ip : List ℕ) : Type 0 where
  pub four : length ip ≡ 4
  pub octets : (i : ℕ) → slice_index ip i ≤ 255

-- an address that an `Address` in code holds
pub record IsAddress (a : Address) : Type 0 where
  pub ip : IsFour a.ip
  pub port : a.port ≤ 65535
