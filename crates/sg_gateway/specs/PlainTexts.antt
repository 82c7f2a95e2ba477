-- No text that the plain side is told has a key.
use Rattle.std.specs.Prelude.{◌≡◌, ◌⊎◌, ℕ, Bool, List, ◌++◌, ◌==◌, ◌||◌, codes}
use Rattle.std.specs.List.{All, slice_split}
use Rattle.sg_base.specs.declared.addresses.Side.TheVariants.{Plain}
use Rattle.sg_outcome.specs.declared.outcomes.Outcome.{Outcome}
use Rattle.sg_outcome.specs.declared.outcomes.Outcome.TheVariants.{Sdp}
use Rattle.sg_sdp.specs.Descriptions.{all_lines, spelling}
use Rattle.sg_sdp.specs.declared.sdp.Sdp as sdp
use Rattle.sg_gateway.specs.Runs.{turns}
use Rattle.sg_gateway.specs.Step.{Event}

-- the line is a crypto attribute (RFC 4568, 9.1) or a key-mgmt attribute (RFC 4567, 3.1)
abbrev pub IsKeyLine : List ℕ → Type 0
IsKeyLine line = (rest : List ℕ) × ((line ≡ codes "a=crypto:" ++ rest) ⊎ (line ≡ codes "a=key-mgmt:" ++ rest))

-- a line ends at a CR and at an LF: between the two of one end stands a line without octets (RFC 4566, 5)
abbrev pub ends_line : ℕ → Bool
ends_line octet = octet == 13 || octet == 10

-- These octets spell a description none of whose lines is one; and no line of the octets is one, wherever a reader takes lines
-- to end.
pub record HasNoKey (text : List ℕ) : Type 0 where
  pub description : sdp.Sdp
  pub spells : text ≡ spelling description
  pub described : All (λ line. ¬ IsKeyLine line) (all_lines description)
  pub read : All (λ line. ¬ IsKeyLine line) (slice_split ends_line text)

-- it is no text for the plain side, or one that has no key
abbrev pub TellsNoKey : Outcome → Type 0
TellsNoKey (Sdp call Plain text) = HasNoKey text
TellsNoKey other = Unit {0}

abbrev pub NoKeyGoesToThePlainSide : List Event → Type 0
NoKeyGoesToThePlainSide events = All (λ t. All TellsNoKey t.outcomes) (turns events)
