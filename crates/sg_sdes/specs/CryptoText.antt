-- The one spelling of a crypto line, and which lines have one.
use Rattle.std.specs.Prelude.{◌≡◌, ◌≢◌, ℕ, ◌<◌, ◌≤◌, ◌^◌, List, [], ◌∷◌, ◌++◌, length, map, Bool, true, Option, Some, None, ◌==◌, if◌then◌else◌, decimal, codes, IfSome}
use Rattle.std.specs.List.{join_with_byte, AllByRecursion}
use Rattle.base64.specs.GeneralPurpose.{IsBytes, encode_of}
use Rattle.base64.specs.Engines.{standard}
use Rattle.sg_base.specs.declared.Suite.{Suite}
use Rattle.sg_base.specs.declared.Suite.TheVariants.{Raw80}
use Rattle.sg_base.specs.Mkis.{IsMki, MkiValue}
use Rattle.sg_base.specs.Suites.{key_len_of, salt_len_of}
use Rattle.sg_base.specs.SuiteNames.{suite_name}
use Rattle.sg_sdes.specs.declared.lines.CryptoLine.{CryptoLine}
use Rattle.sg_sdes.specs.declared.lines.InlineKey.{InlineKey}
use Rattle.sg_sdes.specs.Keys.{all_differ}

-- the longest lifetime isn't printed
abbrev pub lifetime_text : ℕ → List ℕ
lifetime_text n = if n == 2 ^ 48 then [] else codes "|" ++ decimal n

abbrev pub mki_text : Option MkiValue → List ℕ
mki_text None = []
mki_text (Some m) = codes "|" ++ decimal m.value ++ codes ":" ++ decimal m.length

abbrev pub inline_text : InlineKey → List ℕ
inline_text k = codes "inline:" ++ encode_of standard (k.key.key ++ k.key.salt) ++ lifetime_text k.lifetime ++ mki_text k.mki

abbrev pub keys_text : List InlineKey → List ℕ
keys_text keys = join_with_byte 59 (map inline_text keys)

abbrev pub plain_rtp_words : Bool → List (List ℕ)
plain_rtp_words said = if said then codes "UNENCRYPTED_SRTP" ∷ [] else []

abbrev pub plain_rtcp_words : Bool → List (List ℕ)
plain_rtcp_words said = if said then codes "UNENCRYPTED_SRTCP" ∷ [] else []

abbrev pub window_words : Option ℕ → List (List ℕ)
window_words None = []
window_words (Some n) = (codes "WSH=" ++ decimal n) ∷ []

-- the words of the marks and the window
abbrev pub mark_words : CryptoLine → List (List ℕ)
mark_words l = plain_rtp_words l.plain_rtp ++ plain_rtcp_words l.plain_rtcp ++ window_words l.window

-- the words of a line, which its text has with single spaces between them
abbrev pub crypto_words : CryptoLine → List (List ℕ)
crypto_words l = decimal l.tag ∷ suite_name l.suite ∷ keys_text l.keys ∷ mark_words l

unfoldable pub crypto_text : CryptoLine → List ℕ
crypto_text l = join_with_byte 32 (crypto_words l)

-- a key of the suite, with a lifetime and perhaps an MKI
pub record IsInlineKey (suite : Suite) (k : InlineKey) : Type 0 where
  pub suite_is : k.key.suite ≡ suite
  pub key : length k.key.key ≡ key_len_of suite
  pub salt : length k.key.salt ≡ salt_len_of suite
  pub octets : IsBytes (k.key.key ++ k.key.salt)
  pub least : 1 ≤ k.lifetime
  pub most : k.lifetime ≤ 2 ^ 48
  pub mki : IfSome k.mki (λ m. IsMki m.value m.length × (m.value < 2 ^ 128))

-- a crypto line that has a spelling
pub record IsCryptoLine (l : CryptoLine) : Type 0 where
  pub tag : l.tag < 10 ^ 9
  pub suite : l.suite ≢ Raw80
  pub some : 1 ≤ length l.keys
  pub few : length l.keys ≤ 8
  pub keys : AllByRecursion (IsInlineKey l.suite) l.keys
  pub mkis : all_differ l.keys ≡ true
  pub window : IfSome l.window (λ n. n < 10 ^ 9)

-- further keys, each behind a semicolon
abbrev pub next_key : InlineKey → List ℕ
next_key k = codes ";" ++ inline_text k

-- further words, each behind a space
abbrev pub next_words : List (List ℕ) → List ℕ
next_words [] = []
next_words (w ∷ ws) = codes " " ++ w ++ next_words ws
