-- The raw form, and the lengths of a suite's keys, salts and tags in octets (RFC 4568, 6.2; RFC 6188, 2).
use Rattle.std.specs.Prelude.{ℕ, Bool, true, false}
use Rattle.sg_base.specs.declared.suites.Suite.{Suite}
use Rattle.sg_base.specs.declared.suites.Suite.TheVariants.{Raw80, Cm128Tag80, Cm128Tag32, Cm192Tag80, Cm192Tag32, Cm256Tag80, Cm256Tag32}

-- the raw form encrypts nothing
abbrev pub is_raw : Suite → Bool
is_raw Raw80 = true
is_raw Cm128Tag80 = false
is_raw Cm128Tag32 = false
is_raw Cm192Tag80 = false
is_raw Cm192Tag32 = false
is_raw Cm256Tag80 = false
is_raw Cm256Tag32 = false

abbrev pub key_len_of : Suite → ℕ
key_len_of Raw80 = 20
key_len_of Cm128Tag80 = 16
key_len_of Cm128Tag32 = 16
key_len_of Cm192Tag80 = 24
key_len_of Cm192Tag32 = 24
key_len_of Cm256Tag80 = 32
key_len_of Cm256Tag32 = 32

abbrev pub salt_len_of : Suite → ℕ
salt_len_of Raw80 = 0
salt_len_of Cm128Tag80 = 14
salt_len_of Cm128Tag32 = 14
salt_len_of Cm192Tag80 = 14
salt_len_of Cm192Tag32 = 14
salt_len_of Cm256Tag80 = 14
salt_len_of Cm256Tag32 = 14

abbrev pub tag_len_of : Suite → ℕ
tag_len_of Raw80 = 10
tag_len_of Cm128Tag80 = 10
tag_len_of Cm128Tag32 = 4
tag_len_of Cm192Tag80 = 10
tag_len_of Cm192Tag32 = 4
tag_len_of Cm256Tag80 = 10
tag_len_of Cm256Tag32 = 4
