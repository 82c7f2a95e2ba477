-- What the attributes of a description say of keys and sources (RFC 4568, 9.1; RFC 4567, 3.1; RFC 5576, 4.1).
use Rattle.std.specs.Prelude.{ℕ, ◌-◌, ◌^◌, List, [], ◌∷◌, drop, map, length, Bool, true, Option, Some, None, is_some, option_and_then, nat_eq, ◌==◌, ◌||◌, if◌then◌else◌, codes}
use Rattle.std.specs.List.{filter, filter_map, list_any, starts_with}
use Rattle.std.specs.Option.{option_map_or}
use Rattle.sg_base.specs.declared.addresses.Side.{Side}
use Rattle.sg_base.specs.Fields.{◌>>=◌, cut_at, number_at}
use Rattle.sg_sdes.specs.KeyTexts.{base64_at}
use Rattle.sg_sdp.specs.declared.medium.Medium as descriptions
use Rattle.sg_sdp.specs.declared.sdp.Sdp.{Sdp}
use Rattle.sg_agreement.specs.Sides.{is_active}

-- what stands behind a prefix
abbrev pub behind : List ℕ → List ℕ → Option (List ℕ)
behind prefix line = if starts_with nat_eq line prefix then Some (drop (length prefix) line) else None

abbrev pub first_of : List (List ℕ) → Option (List ℕ)
first_of [] = None
first_of (value ∷ values) = Some value

-- ---- crypto attributes

-- their values, in order
unfoldable pub crypto_values : List (List ℕ) → List (List ℕ)
crypto_values lines = filter_map (behind (codes "a=crypto:")) lines

-- ---- key management attributes

-- a word ends at a space or at the end
abbrev pub ends_word : List ℕ → Bool
ends_word [] = true
ends_word (x ∷ xs) = x == 32

-- what stands behind the protocol's name, where that is `mikey`
abbrev pub mikey_rest : List ℕ → Option (List ℕ)
mikey_rest line = behind (codes "a=key-mgmt:mikey") line >>= λ rest. if ends_word rest then Some rest else None

-- of several such lines the first counts
unfoldable pub mikey_value : List (List ℕ) → Option (List ℕ)
mikey_value lines = first_of (filter_map mikey_rest lines)

-- one stands in the session part or in some medium, active or not
abbrev pub has_message : Sdp → Bool
has_message s = is_some (mikey_value s.session) || list_any (λ (m : descriptions.Medium). is_some (mikey_value m.lines)) s.media

-- the message's octets: base64 behind one space
abbrev pub octets_behind : List ℕ → Option (List ℕ)
octets_behind [] = None
octets_behind (space ∷ text) = base64_at text

unfoldable pub mikey_octets : Option (List ℕ) → Option (List ℕ)
mikey_octets value = option_and_then octets_behind value

-- ---- source attributes

-- what stands before the first space, or all
abbrev pub first_word : List ℕ → List ℕ
first_word text = option_map_or (λ parts. parts.0) (cut_at 32 text) text

-- the SSRC that a line names, from 1
abbrev pub ssrc_at : List ℕ → Option ℕ
ssrc_at line = do
  rest ← behind (codes "a=ssrc:") line
  number ← number_at (2 ^ 32 - 1) (first_word rest)
  if number == 0 then None else Some number

-- The gateway sends under the SSRC that the plain side's medium names first. It is 0 where none is named,
-- and then it isn't known.
unfoldable pub own_ssrc : List (List ℕ) → ℕ
own_ssrc [] = 0
own_ssrc (line ∷ lines) = option_map_or (λ ssrc. ssrc) (ssrc_at line) (own_ssrc lines)

-- those of the active media
abbrev pub ssrcs_of : Side → List descriptions.Medium → List ℕ
ssrcs_of side ms = map (λ (m : descriptions.Medium). own_ssrc m.lines) (filter (is_active side) ms)
