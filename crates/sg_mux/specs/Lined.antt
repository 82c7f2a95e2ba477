-- The text of an answer, as it is told: each medium whose leg shares its port gets the line of RFC 5761, 5.1.1, and no other.
use Rattle.std.specs.Prelude.{◌≡◌, ◌⊎◌, ℕ, suc, true, List, [], ◌∷◌, ◌++◌, length, codes, Option, Some, Ok}
use Rattle.std.specs.List.{AllByRecursion}
use Rattle.sg_base.specs.declared.addresses.CallId.{CallId}
use Rattle.sg_base.specs.declared.addresses.Side.{Side}
use Rattle.sg_gateway.specs.Signals.{Answered}
use Rattle.sg_gateway.specs.Step.{Event, Signalled}
use Rattle.sg_outcome.specs.declared.outcomes.Outcome.{Outcome}
use Rattle.sg_outcome.specs.declared.outcomes.Outcome.TheVariants as tells
use Rattle.sg_passages.specs.Passages.{Passage}
use Rattle.sg_sdp.specs.Descriptions.{IsSdp, Spells, all_lines}
use Rattle.sg_sdp.specs.Reading.{description_of}
use Rattle.sg_sdp.specs.declared.medium.Medium.{Medium}
use Rattle.sg_sdp.specs.declared.sdp.Sdp.{Sdp}
use Rattle.sg_mux.specs.Latest.{known_after}
use Rattle.sg_mux.specs.Legs.{is_muxed}
use Rattle.sg_mux.specs.Via.{passages_via}
use Rattle.sg_mux.specs.declared.known.Known.{Known}

-- a medium whose leg shares its port has the line last, another is as it was
abbrev pub GetsLine : Type 0 → Medium → Medium → Type 0
GetsLine Shares m n = (Shares × (n ≡ record m { lines = m.lines ++ codes "a=rtcp-mux" ∷ [] })) ⊎ ((¬ Shares) × (n ≡ m))

-- so each, in order
abbrev pub GetLines : (ℕ → Type 0) → List Medium → List Medium → Type 0
GetLines Shares [] ns = ns ≡ []
GetLines Shares (m ∷ ms) ns =
    (n : Medium) × (others : List Medium) × (ns ≡ n ∷ others) × GetsLine (Shares 0) m n × GetLines (λ i. Shares (suc i)) ms others

-- What is told spells a description: that of the text, whose media have the line so.
pub record IsLined (Shares : ℕ → Type 0) (text told : List ℕ) : Type 0 where
  pub first : Sdp
  pub second : Sdp
  pub was : description_of text ≡ Ok first
  pub is_one : IsSdp second
  pub spells : Spells (all_lines second) told
  pub session : second.session ≡ first.session
  pub media : GetLines Shares first.media second.media

-- the text is told so; or as it was, where no leg shares its port
abbrev pub IsToldBy : (ℕ → Type 0) → List ℕ → List ℕ → Type 0
IsToldBy Shares text told = IsLined Shares text told ⊎ ((told ≡ text) × ((medium : ℕ) → ¬ Shares medium))

-- by what is known of calls the leg of this medium on this side shares its port, of the first call of the id
pub record LegShares (known : List (Option Known)) (id : CallId) (side : Side) (medium : ℕ) : Type 0 where
  pub before : List (Option Known)
  pub call : Known
  pub after : List (Option Known)
  pub are : known ≡ before ++ Some call ∷ after
  pub own : call.id ≡ id
  pub first : AllByRecursion (λ o. (k : Known) → o ≡ Some k → ¬ k.id ≡ id) before
  pub shares : is_muxed known (length before) medium side ≡ true

-- So is the answer behind these events told, by the legs that share their ports behind it.
pub record IsToldWithLines (before : List Event) (id : CallId) (noise answer : List ℕ) : Type 0 where
  pub passage : Passage
  pub passes : passages_via (before ++ Signalled (Answered id noise answer) ∷ []) ≡ passages_via before ++ passage ∷ []
  pub tells : (side : Side) (text : List ℕ) (others : List Outcome) → passage.turn.outcomes ≡ tells.Sdp id side text ∷ others
      → (told : List ℕ) × (passage.told ≡ tells.Sdp id side told ∷ others)
      × IsToldBy (LegShares (known_after (before ++ Signalled (Answered id noise answer) ∷ [])) id side) text told
