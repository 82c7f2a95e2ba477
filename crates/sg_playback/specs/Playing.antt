-- What playing the lines of a script leaves, one by one.
use Rattle.std.specs.Prelude.{◌≡◌, ℕ, List, [], ◌∷◌, ◌++◌, map, Result, Ok, Err}
pub use Rattle.sg_trace.specs.Loop.{IsWant}
use Rattle.sg_trace.specs.Loop.{AreAlike, Effects}
use Rattle.sg_trace.specs.Output.{IsPrefixOf, text}
use Rattle.sg_trace.specs.declared.status.Status.{Status}
use Rattle.sg_front.specs.States.{FrontValue, State, state_after, told_from}
use Rattle.sg_gateway.specs.Signals.{Tick}
use Rattle.sg_gateway.specs.Step.{Event, Signalled}
use Rattle.sg_table.specs.Batches.{arrived}
use Rattle.sg_table.specs.declared.arrival.Arrival.{Arrival}

-- a front, and the datagrams that wait
pub record Playing : Type 0 where
  pub front : FrontValue
  pub waits : List Arrival

-- the events that wait
abbrev pub waiting : Playing → List Event
waiting p = map arrived p.waits

-- what the events tell from a state on, as it is written
abbrev pub text_from : State → List Event → List ℕ
text_from s events = text (told_from s events)

abbrev pub effects : Effects State Event
effects = record { tells = text_from; after = state_after }

-- The events were handled and told, and the front stands for the state after them; or the sink failed or memory ran out, and a
-- prefix was told.
abbrev pub IsStepped : Result (Unit {0}) Status → State → List Event → (State → Type 0) → List ℕ → Type 0
IsStepped (Ok u) s events stands_for out = (out ≡ text_from s events) × stands_for (state_after s events)
IsStepped (Err status) s events stands_for out = IsWant status × IsPrefixOf out (text_from s events)

-- What was handled and told is a prefix of what waited, or all of it.
abbrev pub HasRoom : Result (Unit {0}) Status → State → List Event → List Event → (State → Type 0) → List ℕ → Type 0
HasRoom (Ok u) s waited waits stands_for out = (prefix : List Event) × (waited ≡ prefix ++ waits) × IsStepped (Ok u) s prefix stands_for out
HasRoom (Err status) s waited waits stands_for out = IsStepped (Err status) s waited stands_for out

-- A tick to this moment came behind what waited. A prefix of what is like them all was handled and told, and the rest
-- waits: a tick to the last moment is left out.
abbrev pub HasCome : Result (Unit {0}) Status → ℕ → State → List Event → List Event → (State → Type 0) → List ℕ → Type 0
HasCome (Ok u) now s waited waits stands_for out =
    (prefix : List Event) × AreAlike effects s (waited ++ Signalled (Tick now) ∷ []) (prefix ++ waits) × IsStepped (Ok u) s prefix stands_for out
HasCome (Err status) now s waited waits stands_for out = IsStepped (Err status) s (waited ++ Signalled (Tick now) ∷ []) stands_for out
