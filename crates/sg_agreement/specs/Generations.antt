-- The sessions of a call's generation, under keys that the ring takes in.
use Rattle.std.specs.Prelude.{min, ℕ, ◌+◌, Bool, if◌then◌else◌, List, [], ◌∷◌, ◌++◌, length, map, Option, Some, None, Result, Ok}
use Rattle.sg_base.specs.declared.addresses.Kind.{Kind}
use Rattle.sg_base.specs.declared.addresses.Kind.TheVariants.{Rtp, Rtcp}
use Rattle.sg_base.specs.declared.faults.Refusal.{Refusal}
use Rattle.sg_session.specs.Ring.{Installed, install}
use Rattle.sg_session.specs.Session.{Key, Session}
use Rattle.sg_session.specs.Stages.{after_ok}
use Rattle.sg_session.specs.declared.names.Direction.{Direction}
use Rattle.sg_session.specs.declared.names.Direction.TheVariants.{Opening, Sealing}
use Rattle.sg_session.specs.declared.names.Owner.{Owner}
use Rattle.sg_agreement.specs.Media.{AgreedKey, Stream, Medium}

abbrev pub owner_at : ℕ → ℕ → ℕ → Direction → Owner
owner_at call generation medium direction = record { call = call; medium = medium; generation = generation; direction = direction }

-- ---- keys

abbrev pub owned : Owner → List AgreedKey → List Installed
owned owner ks = map (λ k. record { master = k.master; owner = owner }) ks

-- the keys that come into use, medium by medium from m on, first the peer's and then the gateway's
abbrev pub keys_from : ℕ → ℕ → ℕ → List (Option Medium) → List Installed
keys_from call generation m [] = []
keys_from call generation m (None ∷ ms) = keys_from call generation (m + 1) ms
keys_from call generation m (Some x ∷ ms) =
    owned (owner_at call generation m Opening) x.from_peer.keys
    ++ (owned (owner_at call generation m Sealing) x.to_peer.keys ++ keys_from call generation (m + 1) ms)

-- keys under their numbers, from n on
abbrev pub numbered : ℕ → List AgreedKey → List Key
numbered n [] = []
numbered n (k ∷ ks) = record { number = n; master = k.master; mki = k.mki; life = k.life } ∷ numbered (n + 1) ks

-- a key serves 2^31 SRTCP packets at most (RFC 3711, 9.2)
abbrev pub for_rtcp : Key → Key
for_rtcp k = record k { life = min k.life 2147483648 }

abbrev pub keys_of : Kind → List Key → List Key
keys_of Rtp keys = keys
keys_of Rtcp keys = map for_rtcp keys

-- ---- sessions

-- a session of what one side sends, with nothing done
abbrev pub stream_session : Owner → List Key → Stream → ℕ → Medium → Kind → Bool → ℕ → Session
stream_session owner keys s window x kind encrypts tag_len = record {
  name = record { owner = owner; kind = kind };
  keys = keys_of kind keys;
  roc = s.roc;
  window = window;
  admit = s.admit;
  encrypts = encrypts;
  tag_len = tag_len;
  secure = x.secure;
  plain = x.plain;
  done = [];
}

-- the sessions of what one side sends; RTCP has tags of ten octets in every suite (RFC 3711, 5.2)
abbrev pub stream_sessions : Owner → List Key → Stream → ℕ → Medium → List Session
stream_sessions owner keys s window x =
    stream_session owner keys s window x Rtp s.encrypts_rtp s.tag_len
    ∷ (if x.has_rtcp then stream_session owner keys s window x Rtcp s.encrypts_rtcp 10 ∷ [] else [])

-- The sessions of media, from medium m on, where the next key has number n. An idle medium has none. A
-- sealing window is 1,024.
abbrev pub sessions_from : ℕ → ℕ → ℕ → ℕ → List (Option Medium) → List Session
sessions_from call generation m n [] = []
sessions_from call generation m n (None ∷ ms) = sessions_from call generation (m + 1) n ms
sessions_from call generation m n (Some x ∷ ms) =
    stream_sessions (owner_at call generation m Opening) (numbered n x.from_peer.keys) x.from_peer x.window x
    ++ (stream_sessions (owner_at call generation m Sealing) (numbered (n + length x.from_peer.keys) x.to_peer.keys) x.to_peer 1024 x
    ++ sessions_from call generation (m + 1) (n + length x.from_peer.keys + length x.to_peer.keys) ms)

-- ---- the generation: its sessions, and the ring with its keys

pub record Generation : Type 0 where
  pub sessions : List Session
  pub ring : List Installed

-- Of the call of this serial number, the generation of this number under these media. Refused where a key
-- is reused (KeyReused), or the ring has no room (RingFull).
abbrev pub generation_of : ℕ → ℕ → List Installed → List (Option Medium) → Result Generation Refusal
generation_of call generation ring media =
    after_ok (install ring (keys_from call generation 0 media)) (λ keyed.
    Ok (record { sessions = sessions_from call generation 0 (length ring) media; ring = keyed }))
