-- The ring of all keys that came into use: no key twice.
use Rattle.std.specs.Prelude.{ℕ, ◌+◌, Bool, false, ◌||◌, nat_lt, if◌then◌else◌, List, [], ◌∷◌, ◌++◌, length, Option, Some, None, Result, Ok, Err}
use Rattle.sg_base.specs.Keys.{Master}
use Rattle.sg_base.specs.Octets.{same_octets}
use Rattle.sg_base.specs.declared.keys.SessionKeys.{SessionKeys}
use Rattle.sg_base.specs.declared.faults.Refusal.{Refusal}
use Rattle.sg_base.specs.declared.faults.Refusal.TheVariants.{KeyReused, RingFull}
use Rattle.sg_session.specs.declared.names.Owner.{Owner}
use Rattle.sg_session.specs.Stages.{after_ok, stop_if}
use Rattle.sg_kdf.specs.SessionKeys.{session_keys}

-- a key as the ring compares it: its master key and the two encryption keys that stand beside it
pub record RingKey : Type 0 where
  pub master : Master
  pub rtp : List ℕ
  pub rtcp : List ℕ

-- a master key beside session keys that are given
abbrev pub with_session_keys : Master → SessionKeys → RingKey
with_session_keys m keys = record { master = m; rtp = keys.rtp.encrypt; rtcp = keys.rtcp.encrypt }

-- a master key beside the session keys that are derived of it
abbrev pub derived : Master → RingKey
derived m = with_session_keys m (session_keys m)

-- the two are the same, and not both empty
abbrev pub same_secret : List ℕ → List ℕ → Bool
same_secret [] ys = false
same_secret (x ∷ xs) ys = same_octets (x ∷ xs) ys

-- Two keys clash where their master keys' octets are equal, or where an encryption key of the one equals
-- an encryption key of the other. Salts aren't compared, since a keystream repeats where a key does (9.1).
abbrev pub keys_clash : RingKey → RingKey → Bool
keys_clash a b =
    same_octets a.master.key b.master.key
    || ((same_secret a.rtp b.rtp || same_secret a.rtp b.rtcp)
    || (same_secret a.rtcp b.rtp || same_secret a.rtcp b.rtcp))

abbrev pub key_clashes_with_itself : RingKey → Bool
key_clashes_with_itself k = same_secret k.rtp k.rtcp

-- The ring is a list of whatever has such a key: the least number, from n on, of one that clashes with
-- this key.
abbrev pub first_clash_by : {X : Type 0} → (X → RingKey) → ℕ → List X → RingKey → Option ℕ
first_clash_by key_of n [] k = None
first_clash_by key_of n (r ∷ ring) k = if keys_clash (key_of r) k then Some n else first_clash_by key_of (n + 1) ring k

-- the ring with one key more, or the number of the key that is reused
abbrev pub with_key_by : {X : Type 0} → (X → RingKey) → List X → X → Option ℕ → Result (List X) Refusal
with_key_by key_of ring k (Some n) = Err (KeyReused n)
with_key_by key_of ring k None = stop_if (key_clashes_with_itself (key_of k)) (KeyReused (length ring)) (Ok (ring ++ k ∷ []))

abbrev pub with_keys_by : {X : Type 0} → (X → RingKey) → List X → List X → Result (List X) Refusal
with_keys_by key_of ring [] = Ok ring
with_keys_by key_of ring (k ∷ ks) = after_ok (with_key_by key_of ring k (first_clash_by key_of 0 ring (key_of k))) (λ ring'. with_keys_by key_of ring' ks)

-- the ring with these keys, all or none
abbrev pub install_by : {X : Type 0} → (X → RingKey) → List X → List X → Result (List X) Refusal
install_by key_of ring keys = after_ok (with_keys_by key_of ring keys) (λ ring'. stop_if (nat_lt 65536 (length ring')) RingFull (Ok ring'))

-- of keys as they are given
abbrev pub install_keys : List RingKey → List RingKey → Result (List RingKey) Refusal
install_keys = install_by (λ k. k)

-- a key in use, and whose it is
pub record Installed : Type 0 where
  pub master : Master
  pub owner : Owner

abbrev pub key_of : Installed → RingKey
key_of k = derived k.master

-- of keys in use, beside which their derived session keys stand
abbrev pub clash : Master → Master → Bool
clash a b = keys_clash (derived a) (derived b)

abbrev pub clashes_with_itself : Master → Bool
clashes_with_itself m = key_clashes_with_itself (derived m)

abbrev pub first_clash : ℕ → List Installed → Master → Option ℕ
first_clash n ring m = first_clash_by key_of n ring (derived m)

abbrev pub with_key : List Installed → Installed → Option ℕ → Result (List Installed) Refusal
with_key = with_key_by key_of

abbrev pub with_keys : List Installed → List Installed → Result (List Installed) Refusal
with_keys = with_keys_by key_of

abbrev pub install : List Installed → List Installed → Result (List Installed) Refusal
install = install_by key_of
