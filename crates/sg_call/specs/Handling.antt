-- What becomes of datagrams.
use Rattle.std.specs.Prelude.{◌≡◌, ℕ, Bool, if◌then◌else◌, List, [], ◌∷◌, Result, Ok, Err}
use Rattle.sg_base.specs.declared.addresses.Address.{Address}
use Rattle.sg_base.specs.declared.faults.DropCause.{DropCause}
use Rattle.sg_base.specs.declared.faults.DropCause.TheVariants.{PortUnused, NotLive}
use Rattle.sg_gateway.specs.Batch as batch
use Rattle.sg_gateway.specs.Datagrams.{Given, Drops, Puts, arrived_in}
use Rattle.sg_gateway.specs.World as world
use Rattle.sg_call.specs.Standing.{SessionsStand}
use Rattle.sg_call.specs.Values.{QueuedValue}
use Rattle.sg_call.specs.declared.handled.End.{End}
use Rattle.sg_call.specs.declared.handled.End.TheVariants.{Out, Dropped}
use Rattle.sg_call.specs.declared.handled.Handled.{Handled}
use Rattle.sg_call.specs.declared.route.Route.{Route}

-- what is handed back of a datagram, by what it gives
abbrev pub handled_of : List ℕ → Given → Handled
handled_of d (Drops cause) = record { pad = d; end = Dropped cause }
handled_of d (Puts p) = record { pad = p.octets; end = Out p.port p.to }

-- the octets that are forwarded, or the datagram with its cause
abbrev pub kept_or : List ℕ → Result (List ℕ) DropCause → Result (List ℕ) (List ℕ × DropCause)
kept_or d (Ok octets) = Ok octets
kept_or d (Err cause) = Err (d, cause)

-- what a route hands back, whose packets are forwarded from there to there
abbrev pub handled_by : ℕ → Address → Result (List ℕ) (List ℕ × DropCause) → Handled
handled_by out to (Ok octets) = record { pad = octets; end = Out out to }
handled_by out to (Err (pad, cause)) = record { pad = pad; end = Dropped cause }

-- the same of two routes: the second is tried where the first refuses
abbrev pub handled_by_either : ℕ → Address → ℕ → Address → List ℕ → Result (List ℕ) DropCause → Result (List ℕ) DropCause → Handled
handled_by_either out to out' to' d (Ok octets) r = record { pad = octets; end = Out out to }
handled_by_either out to out' to' d (Err cause) (Ok octets) = record { pad = octets; end = Out out' to' }
handled_by_either out to out' to' d (Err cause) (Err other) = record { pad = d; end = Dropped cause }

-- it holds where the datagram is dropped
abbrev pub OnDrop : End → Type 0 → Type 0
OnDrop (Out port to) P = Unit {0}
OnDrop (Dropped cause) P = P

-- the answer is what the datagram gives in the call, and the routes stand for the sessions after it
pub record IsPassed (now port : ℕ) (from : Address) (d : List ℕ) (c : world.Call) (h : Handled) (current earlier : List Route) : Type 0 where
  pub after : world.Call
  pub is : h ≡ handled_of d (arrived_in now port from d c)
  pub after_is : after ≡ batch.after (arrived_in now port from d c) c
  pub stand : SessionsStand current earlier after

-- what one that waited gives, at its own moment
abbrev pub gives : world.Call → QueuedValue → Given
gives c a = arrived_in a.now a.port a.from a.octets c

-- the call after these in order
abbrev pub call_after : world.Call → List QueuedValue → world.Call
call_after c [] = c
call_after c (a ∷ later) = call_after (batch.after (gives c a) c) later

-- what they give in order
abbrev pub all_handled : world.Call → List QueuedValue → List (ℕ × Handled)
all_handled c [] = []
all_handled c (a ∷ later) = (a.number, handled_of a.octets (gives c a)) ∷ all_handled (batch.after (gives c a) c) later

-- the cause where no session is at a port, by whether the call has had no generation yet
abbrev pub unused : Bool → DropCause
unused is_new = if is_new then NotLive else PortUnused

-- the moment of a call after a datagram that ends so
abbrev pub moment_after : End → ℕ → ℕ → ℕ
moment_after (Out port to) now moment = now
moment_after (Dropped cause) now moment = moment
