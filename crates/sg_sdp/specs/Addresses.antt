-- The address of a medium (RFC 4566, 5.7).
use Rattle.std.specs.Prelude.{ℕ, List, [], ◌∷◌, drop, map, Option, None, if◌then◌else◌, nat_eq, codes}
use Rattle.std.specs.List.{starts_with}
use Rattle.std.specs.Option.{option_or}
use Rattle.sg_sdp.specs.declared.medium.Medium.{Medium}
use Rattle.sg_sdp.specs.declared.sdp.Sdp.{Sdp}
use Rattle.sg_sdp.specs.LineForm.{connection_of}

-- that of a `c=` line
unfoldable pub address_in : List ℕ → Option (List ℕ)
address_in line = if starts_with nat_eq line (codes "c=") then connection_of (drop 2 line) else None

-- that of the first `c=` line
unfoldable pub first_address : List (List ℕ) → Option (List ℕ)
first_address [] = None
first_address (l ∷ ls) = option_or (address_in l) (first_address ls)

-- its own first, else the session part's first
abbrev pub medium_address : Option (List ℕ) → List (List ℕ) → Option (List ℕ)
medium_address session lines = option_or (first_address lines) session

abbrev pub with_address : Option (List ℕ) → Medium → Medium
with_address session m = record m { address = medium_address session m.lines }

-- each medium has its address
abbrev pub addressed : Sdp → Sdp
addressed s = record { session = s.session; media = map (with_address (first_address s.session)) s.media }
