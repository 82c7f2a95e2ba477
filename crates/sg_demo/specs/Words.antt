-- The words of the demonstration, and the keys that are drawn of them.
use Rattle.std.specs.Prelude.{ℕ, zero, suc, List, [], ◌++◌, take}
use Rattle.rand_core.specs.Pcg32Seed.{pcg32_seed}
use Rattle.rand_pcg.specs.Lcg.{Lcg}
use Rattle.rand_pcg.specs.Pcg.{pcg32, pcg32_of_seed}
use Rattle.sg_base.specs.Keys.{Master, master_of}
use Rattle.sg_base.specs.Octets.{be}
use Rattle.sg_base.specs.declared.suites.Suite.TheVariants.{Cm128Tag80}

-- the generator that a number starts
unfoldable pub started_by : ℕ → Lcg
started_by start = pcg32_of_seed (pcg32_seed 16 start)

-- the next word, of 32 bits, and the generator after it
unfoldable pub next_word : Lcg → ℕ × Lcg
next_word words = pcg32 words

-- the octets of the next so many words, the highest of each word first, and the generator after them
abbrev pub octets_drawn : ℕ → Lcg → List ℕ × Lcg
octets_drawn zero words = ([], words)
octets_drawn (suc n) words =
    let before = octets_drawn n words in
    let word = next_word before.1 in
    (before.0 ++ be word.0 4, word.1)

-- A key: the first 30 octets of the next eight words, 16 of the master key and 14 of its salt (RFC 4568, 6.2).
unfoldable pub key_drawn : Lcg → Master × Lcg
key_drawn words =
    let drawn = octets_drawn 8 words in
    (master_of Cm128Tag80 (take 30 drawn.0), drawn.1)
