-- Master keys (RFC 3711, 3.2.1).
use Rattle.std.specs.Prelude.{ℕ, List, take, drop}
use Rattle.sg_base.specs.declared.suites.Suite.{Suite}
use Rattle.sg_base.specs.Suites.{key_len_of}

-- a master key: its suite, its key's octets and its salt's octets
pub record Master : Type 0 where
  pub suite : Suite
  pub key : List ℕ
  pub salt : List ℕ

-- the key's octets come first, the salt's behind them
abbrev pub master_of : Suite → List ℕ → Master
master_of suite octets = record {
  suite = suite;
  key = take (key_len_of suite) octets;
  salt = drop (key_len_of suite) octets;
}
