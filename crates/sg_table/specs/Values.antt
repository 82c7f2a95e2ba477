-- What a table shows, and how its calls are found.
use Rattle.std.specs.Prelude.{◌≡◌, ℕ, ◌<◌, ◌≤◌, Bool, ◌==◌, List, [], ◌∷◌, length, map, Option, slice_index_or}
use Rattle.std.specs.List.{AllByRecursion, position}
use Rattle.sg_call.specs.Values.{CallValue}
use Rattle.sg_gateway.specs.Ports.{is_in_slot}
use Rattle.sg_leg.specs.declared.books.Books.{Books}

pub record TableValue : Type 0 where
  pub calls : List CallValue
  pub books : Books
  pub moment : ℕ

-- where a call stands: its slot, and how many media it has
pub record Shape : Type 0 where
  pub slot : ℕ
  pub media : ℕ

abbrev pub shape_of : CallValue → Shape
shape_of c = record { slot = c.slot; media = c.media }

abbrev pub shapes_of : List CallValue → List Shape
shapes_of calls = map shape_of calls

-- a port of one of the media
abbrev pub has_shape_port : ℕ → Shape → Bool
has_shape_port port s = is_in_slot s.slot s.media port

abbrev pub has_call_port : ℕ → CallValue → Bool
has_call_port port c = has_shape_port port (shape_of c)

-- the slots rise below 256, and no call has more than four media
abbrev pub AreRising : List Shape → Type 0
AreRising [] = Unit {0}
AreRising (s ∷ ss) = (s.media ≤ 4) × (s.slot < 256) × AllByRecursion (λ t. s.slot < t.slot) ss × AreRising ss

-- of each slot the position of its call
pub record AreIndexed (places : List (Option ℕ)) (shapes : List Shape) : Type 0 where
  pub all : length places ≡ 256
  pub at : (slot : ℕ) (d : Option ℕ) → slot < 256 → slice_index_or places slot d ≡ position (λ s. s.slot == slot) shapes

-- no datagram waits in the inbox, and none is handled
abbrev pub IsQuiet : CallValue → Type 0
IsQuiet c = (c.waiting ≡ []) × (c.handled ≡ [])

abbrev pub AreQuiet : List CallValue → Type 0
AreQuiet calls = AllByRecursion IsQuiet calls
