-- The keys of a crypto line (RFC 4568, sections 6.1 and 9.2).
use Rattle.std.specs.Prelude.{ℕ, ◌+◌, ◌^◌, List, [], ◌∷◌, drop, Bool, true, Option, Some, None, is_some, is_none, Result, Ok, Err, nat_eq, ◌==◌, ◌&&◌, ◌||◌, if◌then◌else◌, codes}
use Rattle.std.specs.List.{list_all, starts_with, slice_split}
use Rattle.sg_base.specs.declared.SdesFault.{SdesFault}
use Rattle.sg_base.specs.declared.SdesFault.TheVariants.{Key, Lifetime, MkiValue}
use Rattle.sg_base.specs.declared.Suite.{Suite}
use Rattle.sg_base.specs.Fields.{cut_at}
use Rattle.sg_base.specs.Mkis.{mkis_differ}
use Rattle.sg_sdes.specs.declared.lines.InlineKey.{InlineKey}
use Rattle.sg_sdes.specs.KeyTexts.{key_at, lifetime_at, mki_at}

infixl 10 ◌>>=◌
abbrev pub ◌>>=◌ : {A B : Type 0} → Result A SdesFault → (A → Result B SdesFault) → Result B SdesFault
(Ok x) >>= next = next x
(Err fault) >>= next = Err fault

-- a value, or a fault where there is none
abbrev pub or_fault : {A : Type 0} → SdesFault → Option A → Result A SdesFault
or_fault fault (Some x) = Ok x
or_fault fault None = Err fault

-- a key without a stated lifetime lives for 2^48 packets
abbrev pub alone : Suite → List ℕ → Result InlineKey SdesFault
alone suite text = do
  key ← or_fault Key (key_at suite text)
  Ok (record { key = key; lifetime = 2 ^ 48; mki = None })

-- a key and one part: an MKI where it has a colon, else a lifetime
abbrev pub with_one : Suite → List ℕ → List ℕ → Result InlineKey SdesFault
with_one suite text part = do
  key ← or_fault Key (key_at suite text)
  if is_some (cut_at 58 part)
      then (or_fault MkiValue (mki_at part) >>= λ mki. Ok (record { key = key; lifetime = 2 ^ 48; mki = Some mki }))
      else (or_fault Lifetime (lifetime_at part) >>= λ lifetime. Ok (record { key = key; lifetime = lifetime; mki = None }))

-- a key and two parts: a lifetime, which has no colon, and an MKI, which has one
abbrev pub with_both : Suite → List ℕ → List ℕ → List ℕ → Result InlineKey SdesFault
with_both suite text first second =
    if is_some (cut_at 124 second) || is_some (cut_at 58 first) || is_none (cut_at 58 second) then Err Key
    else (or_fault Key (key_at suite text) >>= λ key. or_fault Lifetime (lifetime_at first) >>= λ lifetime. or_fault MkiValue (mki_at second)
    >>= λ mki. Ok (record { key = key; lifetime = lifetime; mki = Some mki }))

-- what stands behind a key's first bar, cut at its next bar where it has one
abbrev pub behind_bar : Suite → List ℕ → List ℕ → Option (List ℕ × List ℕ) → Result InlineKey SdesFault
behind_bar suite text rest None = with_one suite text rest
behind_bar suite text rest (Some parts) = with_both suite text parts.0 parts.1

-- a key's text, cut at its first bar where it has one
abbrev pub at_bar : Suite → List ℕ → Option (List ℕ × List ℕ) → Result InlineKey SdesFault
at_bar suite text None = alone suite text
at_bar suite text (Some parts) = behind_bar suite parts.0 parts.1 (cut_at 124 parts.1)

-- one key with its lifetime and MKI
unfoldable pub inline_at : Suite → List ℕ → Result InlineKey SdesFault
inline_at suite text =
    if starts_with nat_eq text (codes "inline:") then at_bar suite (drop 7 text) (cut_at 124 (drop 7 text)) else Err Key

-- the keys of the texts, behind so many others; the ninth key is one too many
unfoldable pub keys_from : Suite → ℕ → List (List ℕ) → Result (List InlineKey) SdesFault
keys_from suite count [] = Ok []
keys_from suite count (text ∷ texts) =
    if count == 8 then Err Key
    else (inline_at suite text >>= λ key. keys_from suite (count + 1) texts >>= λ keys. Ok (key ∷ keys))

-- the keys between semicolons
unfoldable pub keys_of : Suite → List ℕ → Result (List InlineKey) SdesFault
keys_of suite text = keys_from suite 0 (slice_split (λ x. x == 59) text)

abbrev pub differs : InlineKey → InlineKey → Bool
differs k l = mkis_differ k.mki l.mki

-- Several keys all have MKIs of one length, each with a value of its own.
unfoldable pub all_differ : List InlineKey → Bool
all_differ [] = true
all_differ (k ∷ ks) = list_all (differs k) ks && all_differ ks
