-- Master key identifiers.
use Rattle.std.specs.Prelude.{ℕ, ◌<◌, ◌≤◌, ◌^◌, List, Bool, false, ◌==◌, ◌&&◌, not, Option, Some}
use Rattle.sg_base.specs.Octets.{be}

-- an MKI: its value and its length in octets
pub record MkiValue : Type 0 where
  pub value : ℕ
  pub length : ℕ

abbrev pub mki_of : ℕ → ℕ → MkiValue
mki_of value size = record { value = value; length = size }

-- 1 to 128 octets, and a value that fits them
pub record IsMki (number size : ℕ) : Type 0 where
  pub least : 1 ≤ size
  pub most : size ≤ 128
  pub fits : number < 256 ^ size

-- its octets, the highest first
abbrev pub mki_octets : MkiValue → List ℕ
mki_octets m = be m.value m.length

-- two MKIs of one length with two values
abbrev pub mkis_differ : Option MkiValue → Option MkiValue → Bool
mkis_differ (Some a) (Some b) = (a.length == b.length) && not (a.value == b.value)
mkis_differ a b = false
