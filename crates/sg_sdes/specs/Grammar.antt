-- The value of a crypto attribute and the line that it says, by the grammar of RFC 4568, 9.2, alone. A line has several
-- texts: they differ in the zeros before its tag and its window, in the spaces between two words, in how a key's
-- octets and its lifetime are spelled, in whether the longest lifetime is stated, and in the order of the parameters.
use Rattle.std.specs.Prelude.{◌≡◌, ◌⊎◌, ℕ, ◌≤◌, ◌^◌, List, [], ◌∷◌, ◌++◌, length, drop, replicate, Bool, true, false, Option, Some, None, nat_eq, codes, decimal}
use Rattle.std.specs.List.{list_all, starts_with, join_with_byte, AllByRecursion, filter}
use Rattle.std.specs.Char.{is_ascii_digit}
use Rattle.std.specs.Str.{bytes_eq}
use Rattle.std.specs.Str.Parse.{digits_value}
use Rattle.base64.specs.GeneralPurpose.{encode_of}
use Rattle.base64.specs.Engines.{standard, standard_no_pad}
use Rattle.sg_base.specs.Fields.{Lacks}
use Rattle.sg_base.specs.SuiteNames.{suite_name}
use Rattle.sg_sdes.specs.declared.lines.CryptoLine.{CryptoLine}
use Rattle.sg_sdes.specs.declared.lines.InlineKey.{InlineKey}
use Rattle.sg_sdes.specs.CryptoText.{mki_text}

-- the text has these words, with one or more spaces between two of them
abbrev pub AreSpaced : List (List ℕ) → List ℕ → Type 0
AreSpaced [] text = text ≡ []
AreSpaced (word ∷ []) text = text ≡ word
AreSpaced (word ∷ next ∷ words) text =
    (more : ℕ) × (rest : List ℕ) × (text ≡ word ++ 32 ∷ (replicate more 32 ++ rest)) × AreSpaced (next ∷ words) rest

-- one to nine digits, of which the first may be zeros
pub record SaysNumber (text : List ℕ) (n : ℕ) : Type 0 where
  pub some : 1 ≤ length text
  pub few : length text ≤ 9
  pub digits : list_all is_ascii_digit text ≡ true
  pub value : digits_value 10 text ≡ n

-- base64 with all its closing `=`, or with none (RFC 4648, sections 3.2 and 4)
abbrev pub SaysOctets : List ℕ → List ℕ → Type 0
SaysOctets text octets = (text ≡ encode_of standard octets) ⊎ (text ≡ encode_of standard_no_pad octets)

-- a number, or a power of two
abbrev pub SaysPackets : List ℕ → ℕ → Type 0
SaysPackets text n = (text ≡ decimal n) ⊎ ((e : ℕ) × (text ≡ codes "2^" ++ decimal e) × (n ≡ 2 ^ e))

-- nothing of the longest lifetime, or the lifetime behind a bar
abbrev pub SaysLifetime : List ℕ → ℕ → Type 0
SaysLifetime text n =
    ((text ≡ []) × (n ≡ 2 ^ 48)) ⊎ ((packets : List ℕ) × (text ≡ codes "|" ++ packets) × SaysPackets packets n)

-- a key, its lifetime and its MKI
pub record SaysKey (text : List ℕ) (k : InlineKey) : Type 0 where
  pub octets : List ℕ
  pub lifetime : List ℕ
  pub parts : text ≡ codes "inline:" ++ (octets ++ (lifetime ++ mki_text k.mki))
  pub says_octets : SaysOctets octets (k.key.key ++ k.key.salt)
  pub says_lifetime : SaysLifetime lifetime k.lifetime

-- each text says the key at its position
abbrev pub SayKeys : List (List ℕ) → List InlineKey → Type 0
SayKeys [] [] = Unit {0}
SayKeys [] (k ∷ keys) = ⊥
SayKeys (text ∷ texts) [] = ⊥
SayKeys (text ∷ texts) (k ∷ keys) = SaysKey text k × SayKeys texts keys

-- ---- parameters

abbrev pub is_passed_over : List ℕ → Bool
is_passed_over text = starts_with nat_eq text (codes "-")

abbrev pub is_window : List ℕ → Bool
is_window text = starts_with nat_eq text (codes "WSH=")

-- the parameters that may stand in a line
abbrev pub IsParameter : List ℕ → Type 0
IsParameter text =
    (is_passed_over text ≡ true) ⊎ ((is_window text ≡ true) ⊎ ((text ≡ codes "KDR=0") ⊎ ((text ≡ codes "FEC_ORDER=FEC_SRTP")
    ⊎ ((text ≡ codes "UNENCRYPTED_SRTP") ⊎ (text ≡ codes "UNENCRYPTED_SRTCP")))))

-- how often a parameter of that name stands there
abbrev pub count_of : List ℕ → List (List ℕ) → ℕ
count_of name texts = length (filter (λ text. bytes_eq text name) texts)

-- a mark stands there once where it is meant, and else not
abbrev pub times : Bool → ℕ
times true = 1
times false = 0

-- the window parameters are one that says the window, or none
abbrev pub SayWindow : List (List ℕ) → Option ℕ → Type 0
SayWindow [] None = Unit {0}
SayWindow (text ∷ []) (Some n) = SaysNumber (drop 4 text) n
SayWindow texts window = ⊥

-- the parameters, in any order: none but those that are passed over stands there twice
pub record SayParameters (texts : List (List ℕ)) (l : CryptoLine) : Type 0 where
  pub known : AllByRecursion IsParameter texts
  pub lack_spaces : AllByRecursion (Lacks 32) texts
  pub rate : count_of (codes "KDR=0") texts ≤ 1
  pub order : count_of (codes "FEC_ORDER=FEC_SRTP") texts ≤ 1
  pub plain_rtp : count_of (codes "UNENCRYPTED_SRTP") texts ≡ times l.plain_rtp
  pub plain_rtcp : count_of (codes "UNENCRYPTED_SRTCP") texts ≡ times l.plain_rtcp
  pub window : SayWindow (filter is_window texts) l.window

-- ---- the line: a tag, a suite, keys with semicolons between, and parameters
pub record SaysLine (text : List ℕ) (l : CryptoLine) : Type 0 where
  pub tag : List ℕ
  pub keys : List (List ℕ)
  pub parameters : List (List ℕ)
  pub words : AreSpaced (tag ∷ suite_name l.suite ∷ join_with_byte 59 keys ∷ parameters) text
  pub says_tag : SaysNumber tag l.tag
  pub say_keys : SayKeys keys l.keys
  pub say_parameters : SayParameters parameters l
