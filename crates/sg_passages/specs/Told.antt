-- What holds of turns, said of what is told of them.
use Rattle.std.specs.Prelude.{◌≡◌, ◌⊎◌, ℕ, List, [], ◌∷◌}
use Rattle.std.specs.List.{All, AllByRecursion, Any, slice_split}
use Rattle.sg_base.specs.declared.addresses.Address.{Address}
use Rattle.sg_base.specs.declared.addresses.CallId.{CallId}
use Rattle.sg_base.specs.declared.addresses.Side.TheVariants.{Plain}
use Rattle.sg_base.specs.declared.faults.DropCause.{DropCause}
use Rattle.sg_conduct.specs.Settled.{IsOneOut}
use Rattle.sg_gateway.specs.Octets.{Octets}
use Rattle.sg_gateway.specs.PeersPackets.{IsOutPlain}
use Rattle.sg_gateway.specs.PlainTexts.{IsKeyLine, ends_line}
use Rattle.sg_gateway.specs.Refusing.{IsRefused}
use Rattle.sg_gateway.specs.Runs.{Turn, after_turn}
use Rattle.sg_gateway.specs.SealedOut.{IsOut, IsOutSecure}
use Rattle.sg_gateway.specs.Signals.{Signal}
use Rattle.sg_gateway.specs.Step.{Datagram, Signalled}
use Rattle.sg_outcome.specs.declared.outcomes.Outcome.TheVariants.{Dropped, Sdp}
use Rattle.sg_session.specs.declared.names.Direction.TheVariants.{Opening, Sealing}
use Rattle.sg_passages.specs.Passages.{CameTo, Passage}

-- the turn, with what is told of it for its outcomes
abbrev pub as_told : Passage → Turn
as_told p = record { before = p.turn.before; event = p.turn.event; outcomes = p.told; entries = p.turn.entries }

-- it holds of each turn as it is told
abbrev pub EachAsTold : (Turn → Type 0) → List Passage → Type 0
EachAsTold Holds passages = All (λ p. Holds (as_told p)) passages

-- an event that opens nothing puts nothing out on a plain port
abbrev pub OpensWhatGoesOut : Turn → Type 0
OpensWhatGoesOut t = AllByRecursion (λ e. e.session.owner.direction ≡ Sealing) t.entries → All (λ o. ¬ IsOutPlain o) t.outcomes

-- an event that seals nothing puts nothing out on a secure port
abbrev pub SealsWhatGoesOut : Turn → Type 0
SealsWhatGoesOut t = AllByRecursion (λ e. e.session.owner.direction ≡ Opening) t.entries → All (λ o. ¬ IsOutSecure o) t.outcomes

-- no signal puts anything out
abbrev pub SignalStaysIn : Turn → Type 0
SignalStaysIn t = (signal : Signal) → t.event ≡ Signalled signal → All (λ o. ¬ IsOut o) t.outcomes

-- nothing is opened or sealed, the cause is told, at the port to which the datagram came, and the world stays as it was
pub record IsToldDropped (p : Passage) (port : ℕ) : Type 0 where
  pub at : ℕ
  pub came : CameTo p.leaves port at
  pub cause : DropCause
  pub told : p.told ≡ Dropped at cause ∷ []
  pub nothing : p.turn.entries ≡ []
  pub same : after_turn p.turn ≡ p.turn.before

-- each datagram is dropped so; or one packet is opened or sealed, and one put out
abbrev pub DatagramIsTold : Passage → Type 0
DatagramIsTold p = (port : ℕ) (from : Address) (d : Octets) → p.turn.event ≡ Datagram port from d → IsToldDropped p port ⊎ IsOneOut (as_told p)

abbrev pub EachDatagramIsTold : List Passage → Type 0
EachDatagramIsTold passages = All DatagramIsTold passages

-- calls, ring, books and moment are after a refusal what they were before
abbrev pub RefusalChangesNothing : Turn → Type 0
RefusalChangesNothing t = IsRefused t → after_turn t ≡ t.before

-- no line of a text for the plain side is a key, wherever a reader takes lines to end
abbrev pub PlainTextsHaveNoKey : Turn → Type 0
PlainTextsHaveNoKey t =
    (id : CallId) (text : List ℕ) → Any (λ o. o ≡ Sdp id Plain text) t.outcomes
    → All (λ line. ¬ IsKeyLine line) (slice_split ends_line text)
