-- Signals are carried out: a call ends, time goes on, an offer is closed, a generation is made.
use Rattle.std.specs.Prelude.{◌≡◌, ℕ, ◌+◌, ◌<◌, ◌≤◌, List, Some, None}
use Rattle.std.specs.List.{All, Any, Contains}
use Rattle.sg_base.specs.declared.addresses.CallId.{CallId}
use Rattle.sg_session.specs.declared.names.Direction.TheVariants.{Opening}
use Rattle.sg_gateway.specs.Refusing.{IsRefused}
use Rattle.sg_gateway.specs.Runs.{Turn, turns, after_turn}
use Rattle.sg_gateway.specs.Signals.{Tick, Answered, Reject, Bye}
use Rattle.sg_gateway.specs.Step.{Event, Signalled}
use Rattle.sg_gateway.specs.World.{Call, call_of}

-- after a bye no call has the id
abbrev pub ByeEnds : Turn → Type 0
ByeEnds t = (id : CallId) → t.event ≡ Signalled (Bye id) → call_of (after_turn t) id ≡ None

abbrev pub ByesEnd : List Event → Type 0
ByesEnd events = All ByeEnds (turns events)

-- after a tick that isn't before the last moment, the last moment is its own
abbrev pub TickMoves : Turn → Type 0
TickMoves t = (now : ℕ) → t.event ≡ Signalled (Tick now) → t.before.moment ≤ now → (after_turn t).moment ≡ now

abbrev pub TicksMove : List Event → Type 0
TicksMove events = All TickMoves (turns events)

-- what is left of a call at a moment: its offer and its sessions, but for those of the generation before the current one
-- from 2,000 ms after that was replaced
pub record IsKeptTo (now : ℕ) (c d : Call) : Type 0 where
  pub serial : d.serial ≡ c.serial
  pub offer : d.offer ≡ c.offer
  pub current : All (λ s. s.name.owner.generation + 1 ≡ c.generations → Contains d.sessions s) c.sessions
  pub earlier : now < c.replaced + 2000 → d.sessions ≡ c.sessions

-- after a tick each call is left that isn't idle at its moment
abbrev pub TickKeeps : Turn → Type 0
TickKeeps t =
    (now : ℕ) → t.event ≡ Signalled (Tick now) → All (λ c. now < c.moment + 60000 → Any (IsKeptTo now c) (after_turn t).calls) t.before.calls

abbrev pub TicksKeep : List Event → Type 0
TicksKeep events = All TickKeeps (turns events)

-- after a rejection no offer of the call is open
abbrev pub RejectionCloses : Turn → Type 0
RejectionCloses t = (id : CallId) (c : Call) → t.event ≡ Signalled (Reject id) → call_of (after_turn t) id ≡ Some c → c.offer ≡ None

abbrev pub RejectionsClose : List Event → Type 0
RejectionsClose events = All RejectionCloses (turns events)

-- after an answer that isn't refused the call is there with one generation more and no open offer, and this moment is
-- its own
abbrev pub AnswerRenews : Turn → Type 0
AnswerRenews t =
    (id : CallId) (noise text : List ℕ) (c : Call) → t.event ≡ Signalled (Answered id noise text) → call_of t.before id ≡ Some c → ¬ IsRefused t
    → (d : Call) × (call_of (after_turn t) id ≡ Some d) × (d.generations ≡ c.generations + 1) × (d.offer ≡ None) × (d.moment ≡ t.before.moment)

abbrev pub AnswersRenew : List Event → Type 0
AnswersRenew events = All AnswerRenews (turns events)

-- and each session that opens, of the generation that the answer replaces, is still there as it was
abbrev pub AnswerKeepsEarlier : Turn → Type 0
AnswerKeepsEarlier t =
    (id : CallId) (noise text : List ℕ) (c d : Call) → t.event ≡ Signalled (Answered id noise text)
    → call_of t.before id ≡ Some c → call_of (after_turn t) id ≡ Some d → d.generations ≡ c.generations + 1
    → All (λ s. s.name.owner.direction ≡ Opening → s.name.owner.generation + 1 ≡ c.generations → Contains d.sessions s) c.sessions

abbrev pub AnswersKeepEarlier : List Event → Type 0
AnswersKeepEarlier events = All AnswerKeepsEarlier (turns events)
