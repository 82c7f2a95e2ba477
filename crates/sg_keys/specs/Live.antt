-- Keys of a session as they stand (RFC 3711, 3.2.1 and 9.2).
use Rattle.std.specs.Prelude.{ℕ, ◌+◌, Bool, ◌||◌, ◌==◌, nat_lt, if◌then◌else◌, List, [], ◌∷◌, length, map, Option, Some, None}
use Rattle.sg_base.specs.Mkis.{MkiValue, mki_octets}
use Rattle.sg_base.specs.Octets.{same_octets}
use Rattle.sg_base.specs.declared.keys.HalfKeys.{HalfKeys}

-- a key: its number in the ring, its MKI's octets, none where it has no MKI, the session keys of the
-- session's kind, how many packets it may serve and how many it has served
pub record Live : Type 0 where
  pub number : ℕ
  pub mki : List ℕ
  pub half : HalfKeys
  pub life : ℕ
  pub count : ℕ

-- the octets of an MKI that may be wanting
abbrev pub octets_of : Option MkiValue → List ℕ
octets_of None = []
octets_of (Some m) = mki_octets m

-- nothing, or a key of AES
abbrev pub is_cipher_len : ℕ → Bool
is_cipher_len n = (n == 0) || ((n == 16) || ((n == 24) || (n == 32)))

-- the key of a schedule, where there are octets
abbrev pub schedule_key : List ℕ → Option (List ℕ)
schedule_key [] = None
schedule_key (x ∷ xs) = Some (x ∷ xs)

-- the key has this MKI
abbrev pub has_mki : List ℕ → Live → Bool
has_mki mki k = same_octets k.mki mki

-- the length of the first key's MKI
abbrev pub mki_len : List Live → ℕ
mki_len [] = 0
mki_len (k ∷ ks) = length k.mki

-- the key may serve a packet more
abbrev pub is_alive : Live → Bool
is_alive k = nat_lt k.count k.life

-- the key once it has served a packet more
abbrev pub served : Live → Live
served k = record k { count = k.count + 1 }

abbrev pub spent_if : ℕ → Live → Live
spent_if number k = if k.number == number then served k else k

-- the keys once the one of this number has served a packet more
abbrev pub spent : ℕ → List Live → List Live
spent number keys = map (spent_if number) keys
