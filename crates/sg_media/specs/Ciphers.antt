-- Keys that can encrypt.
use Rattle.std.specs.Prelude.{◌≡◌, ℕ, ◌<◌, Bool, true, List, length, slice_get, Some}
use Rattle.sg_base.specs.declared.addresses.Kind.{Kind}
use Rattle.sg_base.specs.declared.addresses.Kind.TheVariants.{Rtp, Rtcp}
use Rattle.sg_keys.specs.Live.{Live}

-- RTP is encrypted as the session has it; an RTCP datagram may always say that it is
abbrev pub may_encrypt : Kind → Bool → Bool
may_encrypt Rtp encrypts = encrypts
may_encrypt Rtcp encrypts = true

-- each key has a cipher's key, where something is encrypted
abbrev pub EachEncrypts : List Live → Bool → Type 0
EachEncrypts keys encrypted = (i : ℕ) (k : Live) → slice_get keys i ≡ Some k → encrypted ≡ true → 0 < length k.half.encrypt

abbrev pub HaveCiphers : List Live → Kind → Bool → Type 0
HaveCiphers keys kind encrypts = EachEncrypts keys (may_encrypt kind encrypts)
