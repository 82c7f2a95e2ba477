-- What the value of a crypto attribute says: a line, or its first fault in the order of the text
-- (RFC 4568, sections 4 and 9.1).
use Rattle.std.specs.Prelude.{ℕ, List, drop, Result, Ok, Err, if◌then◌else◌}
use Rattle.sg_base.specs.declared.SdesFault.{SdesFault}
use Rattle.sg_base.specs.declared.SdesFault.TheVariants.{Tag, Suite, MkiValue, Parameter}
use Rattle.sg_sdes.specs.declared.lines.CryptoLine.{CryptoLine}
use Rattle.sg_sdes.specs.Keys.{◌>>=◌, or_fault, keys_of, all_differ}
use Rattle.sg_sdes.specs.KeyTexts.{digits_at, crypto_suite_at}
use Rattle.sg_sdes.specs.Parameters.{unsaid, parameters_from}
use Rattle.sg_sdes.specs.Words.{word_at, words_of}

-- a tag, a suite, keys, and parameters
unfoldable pub crypto_parts : List ℕ → List ℕ → List ℕ → List (List ℕ) → Result CryptoLine SdesFault
crypto_parts tag suite keys parameters = do
  tag ← or_fault Tag (digits_at tag)
  suite ← or_fault Suite (crypto_suite_at suite)
  keys ← keys_of suite keys
  if all_differ keys
      then (or_fault Parameter (parameters_from unsaid parameters) >>= λ said. Ok (record {
        tag = tag;
        suite = suite;
        keys = keys;
        window = said.window;
        plain_rtp = said.plain_rtp;
        plain_rtcp = said.plain_rtcp;
      }))
      else Err MkiValue

abbrev pub crypto_by : List (List ℕ) → Result CryptoLine SdesFault
crypto_by words = crypto_parts (word_at words 0) (word_at words 1) (word_at words 2) (drop 3 words)

-- the words of the value, which begins behind `crypto:`
unfoldable pub crypto_of : List ℕ → Result CryptoLine SdesFault
crypto_of value = crypto_by (words_of value)
