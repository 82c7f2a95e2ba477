-- Choosing a line of an offer, the gateway's own lines, and the answers to them (RFC 4568, sections
-- 5.1 and 7.1).
use Rattle.std.specs.Prelude.{◌≢◌, ℕ, ◌+◌, ◌^◌, List, [], ◌∷◌, take, drop, Bool, false, None, Result, Ok, Err, ◌==◌, if◌then◌else◌}
use Rattle.std.specs.List.{find}
use Rattle.std.specs.Str.{bytes_eq}
use Rattle.sg_base.specs.declared.SdesFault.{SdesFault}
use Rattle.sg_base.specs.declared.SdesFault.TheVariants.{NoLine, Tag, Suite}
use Rattle.sg_base.specs.declared.Suite as suites
use Rattle.sg_base.specs.declared.Suite.TheVariants.{Cm128Tag80, Cm256Tag80}
use Rattle.sg_base.specs.Keys.{master_of}
use Rattle.sg_base.specs.Suites.{key_len_of, salt_len_of}
use Rattle.sg_base.specs.SuiteNames.{suite_name}
use Rattle.sg_sdes.specs.declared.lines.CryptoLine.{CryptoLine}
use Rattle.sg_sdes.specs.declared.lines.InlineKey.{InlineKey}
use Rattle.sg_sdes.specs.CryptoOf.{crypto_of}
use Rattle.sg_sdes.specs.Keys.{◌>>=◌, or_fault}

abbrev pub or_next : Result CryptoLine SdesFault → Result CryptoLine SdesFault → Result CryptoLine SdesFault
or_next (Ok line) others = Ok line
or_next (Err fault) others = others

-- the first value that is read
unfoldable pub chosen_of : List (List ℕ) → Result CryptoLine SdesFault
chosen_of [] = Err NoLine
chosen_of (value ∷ values) = or_next (crypto_of value) (chosen_of values)

-- no line is read of the value
abbrev pub IsUnread : List ℕ → Type 0
IsUnread value = (l : CryptoLine) → crypto_of value ≢ Ok l

-- a new key without a lifetime and an MKI of its own
abbrev pub fresh_key : suites.Suite → List ℕ → InlineKey
fresh_key suite octets = record { key = master_of suite octets; lifetime = 2 ^ 48; mki = None }

-- a line of one new key
abbrev pub fresh_line : ℕ → suites.Suite → List ℕ → Bool → Bool → CryptoLine
fresh_line tag suite octets plain_rtp plain_rtcp = record {
  tag = tag;
  suite = suite;
  keys = fresh_key suite octets ∷ [];
  window = None;
  plain_rtp = plain_rtp;
  plain_rtcp = plain_rtcp;
}

-- the two lines that the gateway offers: AES with 128 bits and with 256 bits
abbrev pub offered_by : List ℕ → List CryptoLine
offered_by noise = fresh_line 1 Cm128Tag80 (take 30 noise) false false ∷ fresh_line 2 Cm256Tag80 (take 46 (drop 30 noise)) false false ∷ []

-- the gateway's answer to a line: its tag, its suite and its marks, and a key of the gateway's own
abbrev pub answer_by : CryptoLine → List ℕ → CryptoLine
answer_by chosen noise =
    fresh_line chosen.tag chosen.suite (take (key_len_of chosen.suite + salt_len_of chosen.suite) noise) chosen.plain_rtp chosen.plain_rtcp

abbrev pub same_suite : suites.Suite → suites.Suite → Bool
same_suite suite other = bytes_eq (suite_name suite) (suite_name other)

-- the offered line that an answer names by its tag, and the peer's line
unfoldable pub matched : List CryptoLine → List ℕ → Result (CryptoLine × CryptoLine) SdesFault
matched offered value = do
  peer ← crypto_of value
  own ← or_fault Tag (find (λ l. l.tag == peer.tag) offered)
  if same_suite own.suite peer.suite then Ok (own, peer) else Err Suite
