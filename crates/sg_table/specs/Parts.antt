-- The three parts of a batch, call by call.
use Rattle.std.specs.Prelude.{◌≡◌, ℕ, ◌+◌, ◌≤◌, List, [], ◌∷◌, ◌++◌, length, map, drop, Option, Some, None, Bool, if◌then◌else◌, IsSome}
use Rattle.std.specs.List.{AllByRecursion, list_any}
use Rattle.sg_base.specs.declared.faults.DropCause.TheVariants.{PortUnused}
use Rattle.sg_call.specs.Handling.{handled_of}
use Rattle.sg_call.specs.Standing.{CallStandsFor}
use Rattle.sg_call.specs.Values.{CallValue, QueuedValue}
use Rattle.sg_call.specs.declared.handled.End.TheVariants.{Dropped}
use Rattle.sg_call.specs.declared.handled.Handled.{Handled}
use Rattle.sg_gateway.specs.Batch.{Arrived, AreDrained, after, given_by, drained, delivered, own}
use Rattle.sg_gateway.specs.Octets.{as_octets}
use Rattle.sg_gateway.specs.World.{Call, World}
use Rattle.sg_leg.specs.Pairs.{EachPair}
use Rattle.sg_psk.specs.declared.pairs.Pair.{Pair}
use Rattle.sg_table.specs.Batches.{octets_of, with_handled, answered}
use Rattle.sg_table.specs.Octets.{AreOctets}
use Rattle.sg_table.specs.Values.{Shape, has_call_port, has_shape_port}
use Rattle.sg_table.specs.declared.arrival.Arrival.{Arrival}

-- ---- calls and arrivals as lists

-- a call with one datagram more that waits
abbrev pub pushed : QueuedValue → CallValue → CallValue
pushed a c = record c { waiting = c.waiting ++ a ∷ [] }

abbrev pub pushed_at : QueuedValue → CallValue → CallValue
pushed_at a c = if has_call_port a.port c then pushed a c else c

-- a call without the first datagram that it has handled
abbrev pub popped : CallValue → CallValue
popped c = record c { handled = drop 1 c.handled }

abbrev pub popped_at : ℕ → CallValue → CallValue
popped_at port c = if has_call_port port c then popped c else c

abbrev pub waiting_of : ℕ → ℕ → Arrival → QueuedValue
waiting_of number now a = record { number = number; port = a.port; from = a.from; octets = octets_of a.pad; now = now }

-- some call has this port
abbrev pub is_taken : ℕ → List Shape → Bool
is_taken port shapes = list_any (has_shape_port port) shapes

-- an arrival that is handed to a call, or that no call takes
abbrev pub handed : Bool → Arrival → Arrival
handed taken a = if taken then record a { pad = None } else record a { end = Some (Dropped PortUnused) }

abbrev pub all_handed : List Shape → List Arrival → List Arrival
all_handed shapes arrivals = map (λ a. handed (is_taken a.port shapes) a) arrivals

-- the first datagram that the call at this port has handled
abbrev pub first_handled : List (ℕ × Handled) → Option Handled
first_handled [] = None
first_handled (h ∷ hs) = Some h.1

abbrev pub handled_first : ℕ → List CallValue → Option Handled
handled_first port [] = None
handled_first port (c ∷ cs) = if has_call_port port c then first_handled c.handled else handled_first port cs

abbrev pub given_back : Arrival → Option Handled → Arrival
given_back a None = a
given_back a (Some h) = with_handled a h

-- each inbox has room, of which so many places may be taken
abbrev pub HaveRoom : ℕ → List CallValue → Type 0
HaveRoom n calls = AllByRecursion (λ c. length c.waiting + length c.handled ≤ n) calls

-- ---- what they stand for

abbrev pub datagram_of : Arrival → Arrived
datagram_of a = record { port = a.port; from = a.from; octets = as_octets (octets_of a.pad) }

-- an arrival has its pad, which holds octets
abbrev pub HasOctets : Arrival → Type 0
HasOctets a = IsSome a.pad × AreOctets (octets_of a.pad)

-- this datagram waits, to be handled at this moment
pub record Waits (now : ℕ) (a : Arrived) (waiting : QueuedValue) : Type 0 where
  pub port : waiting.port ≡ a.port
  pub from : waiting.from ≡ a.from
  pub octets : waiting.octets ≡ a.octets.items
  pub moment : waiting.now ≡ now

-- what datagrams give in order
abbrev pub handled_all : ℕ → Call → List Arrived → List Handled
handled_all now c [] = []
handled_all now c (a ∷ later) = handled_of a.octets.items (given_by now c a) ∷ handled_all now (after (given_by now c a) c) later

-- before the drain: of the datagrams so far those at the call's own ports wait
pub record IsReady (pairs : List Pair) (now : ℕ) (before : List Arrived) (call : CallValue) (c : Call) : Type 0 where
  pub stands : CallStandsFor pairs call c
  pub waits : EachPair (Waits now) (own c before) call.waiting
  pub none_handled : call.handled ≡ []

-- after it: of the datagrams to come those at the call's own ports are handled
pub record IsLeft (pairs : List Pair) (now : ℕ) (later : List Arrived) (call : CallValue) (c : Call) : Type 0 where
  pub stands : CallStandsFor pairs call (drained now c (own c later))
  pub none_waits : call.waiting ≡ []
  pub are_handled : map (λ h. h.1) call.handled ≡ handled_all now c (own c later)

-- the same of all calls of a world
abbrev pub AreReady : ℕ → List Arrived → List CallValue → World → Type 0
AreReady now before calls w = EachPair (IsReady w.books.pairs now before) calls w.calls

abbrev pub AreLeft : ℕ → List Arrived → List CallValue → World → Type 0
AreLeft now later calls w = EachPair (IsLeft w.books.pairs now later) calls w.calls

-- datagrams leave each call as those at its own ports do
abbrev pub TakesTurns : World → Type 0
TakesTurns w = (arrivals : List Arrived) → AreDrained w arrivals

-- All is taken back: where the calls have handled these arrivals, each arrival is answered, and the calls stand for
-- those of the world after them.
abbrev pub IsGathered : World → List Arrival → List CallValue → List Arrival → List CallValue → Type 0
IsGathered w came calls arrivals calls' = TakesTurns w → AllByRecursion HasOctets came → AreLeft w.moment (map datagram_of came) calls w
    → (arrivals ≡ answered w came) × AreLeft w.moment [] calls' (delivered w (map datagram_of came))
