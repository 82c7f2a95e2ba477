-- The session keys of a master key (RFC 3711, 4.3), of the lengths that the suite says (RFC 6188, 2).
use Rattle.std.specs.Prelude.{◌≡◌, ℕ, ◌+◌, ◌*◌, ◌%◌, ◌^◌, ◌<◌, List, [], length, bit_xor, slice_index, map, replicate, All, if◌then◌else◌}
use Rattle.std.specs.List.{range_with_len}
use Rattle.sg_base.specs.Octets.{number_of}
use Rattle.sg_base.specs.Keys.{Master}
use Rattle.sg_base.specs.Suites.{key_len_of}
pub use Rattle.sg_base.specs.Suites.{is_raw}
use Rattle.sg_base.specs.declared.suites.Suite.{Suite}
use Rattle.sg_base.specs.declared.keys.HalfKeys.{HalfKeys}
use Rattle.sg_base.specs.declared.keys.SessionKeys.{SessionKeys}
use Rattle.sg_ctr.specs.Keystream.{counter_stream}

-- the first counter of a label: the salt's number with the label on it by XOR, 48 bits up, and 16 bits
-- for the blocks (4.3.1, with a derivation rate of 0, and 4.3.3)
abbrev pub label_counter : List ℕ → ℕ → ℕ
label_counter salt label = bit_xor (number_of salt) (label * 2 ^ 48) * 2 ^ 16

-- the first n octets of a label's stream under the master key (4.3.3)
abbrev pub derived : Master → ℕ → ℕ → List ℕ
derived master label n = counter_stream master.key (label_counter master.salt label) n

-- the keys of one kind, whose labels begin at `first`: encryption, authentication, salt (4.3.1)
abbrev pub derived_half : Master → ℕ → HalfKeys
derived_half master first = record {
  encrypt = derived master first (key_len_of master.suite);
  auth = derived master (first + 1) 20;
  salt = derived master (first + 2) 14;
}

-- the labels of SRTP are 0, 1 and 2 (4.3.1), those of SRTCP 3, 4 and 5 (4.3.2)
abbrev pub derived_keys : Master → SessionKeys
derived_keys master = record { rtp = derived_half master 0; rtcp = derived_half master 3 }

-- the 20 octets of a raw key. Of a list that is no raw key the first 20 count, each modulo 256, with zeros
-- where there are fewer, so that every list has an authentication key.
abbrev pub raw_auth : List ℕ → List ℕ
raw_auth key = map (λ i. slice_index key i % 256) (range_with_len 0 20)

-- the keys of either kind under a raw key: nothing is encrypted
abbrev pub raw_half : List ℕ → HalfKeys
raw_half key = record { encrypt = []; auth = raw_auth key; salt = replicate 14 0 }

abbrev pub raw_keys : List ℕ → SessionKeys
raw_keys key = record { rtp = raw_half key; rtcp = raw_half key }

-- the session keys of a master key
unfoldable pub session_keys : Master → SessionKeys
session_keys master = if is_raw master.suite then raw_keys master.key else derived_keys master

-- the octets of a suite's encryption keys
abbrev pub encrypt_len_of : Suite → ℕ
encrypt_len_of suite = if is_raw suite then 0 else key_len_of suite

-- the keys have the suite's lengths, and octets alone
pub record AreKeysOf (suite : Suite) (keys : HalfKeys) : Type 0 where
  pub encrypt_length : length keys.encrypt ≡ encrypt_len_of suite
  pub encrypt_octets : All (λ octet. octet < 256) keys.encrypt
  pub auth_length : length keys.auth ≡ 20
  pub auth_octets : All (λ octet. octet < 256) keys.auth
  pub salt_length : length keys.salt ≡ 14
  pub salt_octets : All (λ octet. octet < 256) keys.salt
