-- The keys of a session that begins: none has served a packet.
use Rattle.std.specs.Prelude.{ℕ, ◌+◌, Bool, min, List, [], ◌∷◌, ◌++◌, map, Option, Some, None}
use Rattle.sg_base.specs.declared.addresses.Kind.{Kind}
use Rattle.sg_base.specs.declared.addresses.Kind.TheVariants.{Rtp, Rtcp}
use Rattle.sg_agreement.specs.Media.{AgreedKey, Stream, Medium}
use Rattle.sg_kdf.specs.SessionKeys.{session_keys}
use Rattle.sg_keys.specs.Live.{Live}
use Rattle.sg_session.specs.Halves.{half_of}
use Rattle.sg_session.specs.Ring.{RingKey, derived}

-- a key serves 2^31 SRTCP packets at most (RFC 3711, 9.2)
abbrev pub life_for : Kind → ℕ → ℕ
life_for Rtp life = life
life_for Rtcp life = min life 2147483648

abbrev pub fresh_key : Kind → ℕ → AgreedKey → Live
fresh_key kind n k = record { number = n; mki = k.mki; half = half_of kind (session_keys k.master); life = life_for kind k.life; count = 0 }

-- under their numbers, from n on
abbrev pub fresh_keys : Kind → ℕ → List AgreedKey → List Live
fresh_keys kind n [] = []
fresh_keys kind n (k ∷ ks) = fresh_key kind n k ∷ fresh_keys kind (n + 1) ks

-- whether a kind is encrypted
abbrev pub encrypts_for : Kind → Stream → Bool
encrypts_for Rtp s = s.encrypts_rtp
encrypts_for Rtcp s = s.encrypts_rtcp

-- the octets of its tag: RTCP has ten in every suite (RFC 3711, 5.2)
abbrev pub tag_for : Kind → Stream → ℕ
tag_for Rtp s = s.tag_len
tag_for Rtcp s = 10

-- what the ring compares of keys
abbrev pub ring_keys : List AgreedKey → List RingKey
ring_keys ks = map (λ (k : AgreedKey). derived k.master) ks

-- of media, medium by medium, first the peer's and then the gateway's
abbrev pub media_keys : List (Option Medium) → List RingKey
media_keys [] = []
media_keys (None ∷ ms) = media_keys ms
media_keys (Some x ∷ ms) = ring_keys x.from_peer.keys ++ (ring_keys x.to_peer.keys ++ media_keys ms)
