-- What a call shows.
use Rattle.std.specs.Prelude.{ℕ, Bool, List}
use Rattle.sg_base.specs.declared.addresses.Address.{Address}
use Rattle.sg_base.specs.declared.addresses.CallId.{CallId}
use Rattle.sg_call.specs.declared.handled.Handled.{Handled}
use Rattle.sg_call.specs.declared.route.Route.{Route}
use Rattle.sg_call.specs.declared.state.State.{State}

-- a datagram that waits, with its number and its moment
pub record QueuedValue : Type 0 where
  pub number : ℕ
  pub port : ℕ
  pub from : Address
  pub octets : List ℕ
  pub now : ℕ

-- the inbox: what waits, and what is handled under its number
pub record InboxValue : Type 0 where
  pub waiting : List QueuedValue
  pub handled : List (ℕ × Handled)

-- the routes of the current generation and of the one before
pub record RoutesValue : Type 0 where
  pub current : List Route
  pub earlier : List Route

pub record CallValue : Type 0 where
  pub id : CallId
  pub slot : ℕ
  pub media : ℕ
  pub is_new : Bool
  pub state : State
  pub current : List Route
  pub earlier : List Route
  pub replaced : ℕ
  pub moment : ℕ
  pub waiting : List QueuedValue
  pub handled : List (ℕ × Handled)
