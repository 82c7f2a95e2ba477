-- Sets of keys, and the choice of one.
use Rattle.std.specs.Prelude.{◌≡◌, ℕ, ◌-◌, ◌<◌, ◌≤◌, true, if◌then◌else◌, List, length, Option, Some, None, Result, Ok, Err, slice_get, find, All}
use Rattle.sg_keys.specs.Live.{Live, has_mki, is_alive, is_cipher_len, mki_len}
use Rattle.sg_keys.specs.declared.key_set.OpenKeyFault.{OpenKeyFault}
use Rattle.sg_keys.specs.declared.key_set.OpenKeyFault.TheVariants.{MkiUnknown, KeySpent}
use Rattle.sg_keys.specs.declared.key_set.Spent.{Spent}

-- no two of the keys have the same
abbrev pub AreApart : {X : Type 0} → (Live → X) → List Live → Type 0
AreApart of keys = (i j : ℕ) (a b : Live) → slice_get keys i ≡ Some a → slice_get keys j ≡ Some b → of a ≡ of b → i ≡ j

-- At least one key, each with a cipher's key or none, and none with a count above its life. Numbers differ,
-- and so do MKIs, which are of one length. Two keys without an MKI would have the same, so there is one at
-- most without one.
pub record IsKeySet (keys : List Live) : Type 0 where
  pub some : 0 < length keys
  pub ciphers : All (λ k. is_cipher_len (length k.half.encrypt) ≡ true) keys
  pub counts : All (λ k. k.count ≤ k.life) keys
  pub numbers : AreApart (λ k. k.number) keys
  pub mkis : AreApart (λ k. k.mki) keys
  pub mki_lens : All (λ k. length k.mki ≡ mki_len keys) keys

-- what was found stands at the position
pub record IsAt (found : Option Live) (keys : List Live) (position : ℕ) : Type 0 where
  pub key : Live
  pub here : slice_get keys position ≡ Some key
  pub is : found ≡ Some key

-- the number and the count of a key of the set that has served as many packets as its life says
pub record IsSpent (keys : List Live) (n served : ℕ) : Type 0 where
  pub key : Live
  pub position : ℕ
  pub here : slice_get keys position ≡ Some key
  pub number : n ≡ key.number
  pub count : served ≡ key.count
  pub life : served ≡ key.life

-- a fault that tells of a spent key tells its number and its count, which equals its life
abbrev pub TellsSpent : List Live → OpenKeyFault → Type 0
TellsSpent keys MkiUnknown = Unit {0}
TellsSpent keys (KeySpent number count) = IsSpent keys number count

abbrev pub chosen_if : Option Live → Result Live OpenKeyFault
chosen_if None = Err MkiUnknown
chosen_if (Some k) = if is_alive k then Ok k else Err (KeySpent k.number k.count)

-- the first key with this MKI, where it is alive
abbrev pub chosen : List Live → List ℕ → Result Live OpenKeyFault
chosen keys mki = chosen_if (find (has_mki mki) keys)

abbrev pub told : Option Live → Spent
told None = record { number = 0; count = 0 }
told (Some k) = record { number = k.number; count = k.count }

abbrev pub sealing_if : Option Live → List Live → Result Live Spent
sealing_if None keys = Err (told (slice_get keys (length keys - 1)))
sealing_if (Some k) keys = Ok k

-- the first key that is alive, or the last one's number and count
abbrev pub chosen_seal : List Live → Result Live Spent
chosen_seal keys = sealing_if (find is_alive keys) keys
