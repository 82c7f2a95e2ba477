-- What the option `--mux` means for a run: without it all comes, leaves and is told as it is; with it legs share their ports, as the
-- offers and answers of the run say (RFC 5761).
use Rattle.std.specs.Prelude.{◌≡◌, ℕ, Bool, true, false, List, [], ◌∷◌, ◌++◌, length}
use Rattle.std.specs.List.{All, flat_map}
use Rattle.sg_base.specs.declared.addresses.Address.{Address}
use Rattle.sg_base.specs.declared.addresses.CallId.{CallId}
use Rattle.sg_base.specs.declared.addresses.Side.{Side}
use Rattle.sg_base.specs.declared.faults.DropCause.{DropCause}
use Rattle.sg_gateway.specs.Octets.{Octets}
use Rattle.sg_gateway.specs.Signals.{Signal, Answered}
use Rattle.sg_gateway.specs.Step.{Event, Signalled, Datagram}
use Rattle.sg_mux.specs.Latest.{Telling, known_after, tellings, tellings_of}
use Rattle.sg_mux.specs.Lined.{IsToldBy, LegShares}
use Rattle.sg_mux.specs.Sharing.{IsTakenAt, LeavesBy}
use Rattle.sg_outcome.specs.declared.outcomes.Outcome.{Outcome}
use Rattle.sg_outcome.specs.declared.outcomes.Outcome.TheVariants.{Dropped, Sdp}
use Rattle.sg_passages.specs.Passages.{Passage}

-- ---- without the option

-- what the gateway tells is told, and what it puts out leaves by its own port, to its own address
pub record IsToldPlainly (p : Passage) : Type 0 where
  pub told : p.told ≡ p.turn.outcomes
  pub leaves : (port : ℕ) (to : Address) → p.leaves port to ≡ record { port = port; to = to }

abbrev pub AreToldPlainly : List Passage → Type 0
AreToldPlainly passages = All IsToldPlainly passages

-- ---- with the option

-- what the gateway tells in these passages, outcome by outcome
abbrev pub tellings_in : List Passage → List Telling
tellings_in passages = flat_map (λ p. tellings_of p.turn) passages

-- Behind so many that came a run has this event and this passage; before them are as many of each. What the gateway told by then is
-- what legs and their ports go by.
pub record IsNext (before : List Event) (events : List Event) (passages : List Passage) (event : Event) (passage : Passage) : Type 0 where
  pub events_before : List Event
  pub events_after : List Event
  pub passages_before : List Passage
  pub passages_after : List Passage
  pub events_are : events ≡ events_before ++ event ∷ events_after
  pub passages_are : passages ≡ passages_before ++ passage ∷ passages_after
  pub events_count : length events_before ≡ length before
  pub passages_count : length passages_before ≡ length before
  pub told : tellings before ≡ tellings_in passages_before

-- The datagram that came to this port is taken, and what it puts out leaves, by the legs that share their ports by what was told;
-- a drop is told at the port to which it came.
pub record IsTakenBy (before : List Event) (events : List Event) (passages : List Passage) (port : ℕ) (from : Address) (octets : Octets) : Type 0 where
  pub at : ℕ
  pub passage : Passage
  pub next : IsNext before events passages (Datagram at from octets) passage
  pub taken : IsTakenAt (tellings_in next.passages_before) port octets.items at
  pub leaves : (by : ℕ) (to : Address) → LeavesBy (tellings_in next.passages_before) by to (passage.leaves by to)
  pub drops : (told : ℕ) (cause : DropCause) → passage.told ≡ Dropped told cause ∷ [] → told ≡ port

-- The text of the answer has the line of each medium whose leg shares its port behind the answer, and no other.
pub record IsAnsweredBy (before : List Event) (events : List Event) (passages : List Passage) (id : CallId) (noise answer : List ℕ) : Type 0 where
  pub passage : Passage
  pub next : IsNext before events passages (Signalled (Answered id noise answer)) passage
  pub tells : (side : Side) (text : List ℕ) (others : List Outcome) → passage.turn.outcomes ≡ Sdp id side text ∷ others
      → (told : List ℕ) × (passage.told ≡ Sdp id side told ∷ others)
      × IsToldBy (LegShares (known_after (before ++ Signalled (Answered id noise answer) ∷ [])) id side) text told

-- so of every datagram and every answer that comes in the run; each signal comes to the gateway as it is
pub record SharesPorts (came events : List Event) (passages : List Passage) : Type 0 where
  pub datagrams : (before after : List Event) (port : ℕ) (from : Address) (octets : Octets) → came ≡ before ++ Datagram port from octets ∷ after
      → IsTakenBy before events passages port from octets
  pub answers : (before after : List Event) (id : CallId) (noise answer : List ℕ) → came ≡ before ++ Signalled (Answered id noise answer) ∷ after
      → IsAnsweredBy before events passages id noise answer
  pub signals : (before after : List Event) (signal : Signal) → came ≡ before ++ Signalled signal ∷ after
      → (passage : Passage) × IsNext before events passages (Signalled signal) passage

-- ---- either

-- by the option, what came, the run's events at the gateway, and its passages
abbrev pub GoesByOption : Bool → List Event → List Event → List Passage → Type 0
GoesByOption false came events passages = (events ≡ came) × AreToldPlainly passages
GoesByOption true came events passages = SharesPorts came events passages
