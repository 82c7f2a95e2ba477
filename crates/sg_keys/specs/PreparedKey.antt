-- What is kept of a key.
use Rattle.std.specs.Prelude.{◌≡◌, ℕ, ◌≤◌, List, length, Option}
use Rattle.sg_hmac.specs.States.{IsMacKey}
use Rattle.sg_hmac.specs.declared.hmac.MacKey.{MacKey}
use Rattle.sg_keys.specs.declared.live_key.LiveKey.{LiveKey}
use Rattle.sg_keys.specs.Live.{Live, octets_of, schedule_key}

-- a key as it stands
abbrev pub live_of : LiveKey → Live
live_of k = record { number = k.number; mki = octets_of k.mki; half = k.half; life = k.life; count = k.count }

-- the parts are those of the key
pub record AreParts (key : LiveKey) (mki : List ℕ) (schedule : Option (List ℕ)) (mac : MacKey) : Type 0 where
  pub same_mki : mki ≡ octets_of key.mki
  pub short : length mki ≤ 128
  pub same_schedule : schedule ≡ schedule_key key.half.encrypt
  pub same_mac : IsMacKey key.half.auth mac
