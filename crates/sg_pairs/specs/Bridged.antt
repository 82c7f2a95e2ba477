-- A run of a bridge: the table's events, each inner datagram right after the one that opened it, and what is told.
use Rattle.std.specs.Prelude.{◌≡◌, ℕ, ◌+◌, ◌<◌, ◌≤◌, List, [], ◌∷◌, ◌++◌, map, Option, Some, None, option_to_list, Result, Ok, Err}
use Rattle.std.specs.List.{All, Any, flat_map}
use Rattle.sg_base.specs.declared.addresses.Address.{Address}
use Rattle.sg_base.specs.declared.addresses.CallId.{CallId}
use Rattle.sg_base.specs.declared.faults.DropCause.TheVariants.{PortUnused}
use Rattle.sg_gateway.specs.Datagrams.{Entry, Happening}
use Rattle.sg_gateway.specs.Legs.{secure_leg_address, secure_leg_port}
use Rattle.sg_gateway.specs.Octets.{as_octets}
use Rattle.sg_gateway.specs.PlainOf.{plain_at}
use Rattle.sg_gateway.specs.Runs.{Turn, turn_of}
use Rattle.sg_gateway.specs.SealedOut.{IsSealedOutOf, sealed_by}
use Rattle.sg_gateway.specs.Step.{Event, Signalled, Datagram, step}
use Rattle.sg_gateway.specs.World.{Call, World, empty}
use Rattle.sg_outcome.specs.declared.outcomes.Outcome.{Outcome}
use Rattle.sg_outcome.specs.declared.outcomes.Outcome.TheVariants.{Out, Dropped}
use Rattle.sg_session.specs.Reach.{text_in}
use Rattle.sg_session.specs.Session.{Session}
use Rattle.sg_session.specs.declared.names.Direction.TheVariants.{Sealing}
use Rattle.sg_pairs.specs.Joined.{AreJoined, IsInPair, port_of_leg}
use Rattle.sg_pairs.specs.Onward.{onward}
use Rattle.sg_pairs.specs.Pairs.{Joining, Members, Parting, joined, no_members, after_outcome, parted_from}
use Rattle.sg_pairs.specs.declared.faults.JoinFault.{JoinFault}
use Rattle.sg_pairs.specs.declared.outcomes.BridgeOutcome.{BridgeOutcome}
use Rattle.sg_pairs.specs.declared.outcomes.BridgeOutcome.TheVariants as tells

-- what a line says, once a signal has its noise: an event happens, two calls are to be joined, or one is to be parted
pub data Said : Type 0 where
  Happens : Event → Said
  Joins : CallId → CallId → Said
  Parts : CallId → Said

-- What one of them gives: the world and the calls before it, events of the table in order, what is told, and the world and
-- the calls after it.
pub record Bridging : Type 0 where
  pub before : World
  pub pairs : Members
  pub events : List Event
  pub told : List BridgeOutcome
  pub world : World
  pub calls : Members

-- ---- what is told of a signal

-- what is told of outcomes, each with the pair that it parts behind it, and the calls after them
pub record Following : Type 0 where
  pub told : List BridgeOutcome
  pub calls : Members

abbrev pub behind : Outcome → Option BridgeOutcome → Following → Following
behind o parted f = record { told = tells.Table o ∷ option_to_list parted ++ f.told; calls = f.calls }

abbrev pub told_and_parted : Members → List Outcome → Following
told_and_parted calls [] = record { told = []; calls = calls }
told_and_parted calls (o ∷ os) = behind o (after_outcome calls o).parted (told_and_parted (after_outcome calls o).calls os)

abbrev pub after_signal : World → Members → Event → Happening → Following → Bridging
after_signal w calls e h f = record { before = w; pairs = calls; events = e ∷ []; told = f.told; world = h.world; calls = f.calls }

-- ---- what becomes of a datagram

abbrev pub nothing_happens : World → Members → BridgeOutcome → Bridging
nothing_happens w calls o = record { before = w; pairs = calls; events = []; told = o ∷ []; world = w; calls = calls }

abbrev pub happens : World → Members → List Event → List BridgeOutcome → World → Bridging
happens w calls events told after = record { before = w; pairs = calls; events = events; told = told; world = after; calls = calls }

-- what is told of an inner datagram
abbrev pub inner_told : Outcome → BridgeOutcome
inner_told (Dropped port cause) = tells.Lost port cause
inner_told other = tells.Table other

-- what was opened comes to the other call's plain port, from the plain address there
abbrev pub inner : ℕ → Address → List ℕ → Event
inner q from d = Datagram q from (as_octets d)

abbrev pub handed_on : World → Members → Event → World → ℕ → List ℕ → Option Address → Bridging
handed_on w calls e after q d None = happens w calls (e ∷ []) (tells.Lost q PortUnused ∷ []) after
handed_on w calls e after q d (Some from) =
    happens w calls (e ∷ inner q from d ∷ []) (map inner_told (step after (inner q from d)).outcomes) (step after (inner q from d)).world

abbrev pub opened : World → Members → Event → World → ℕ → Address → List ℕ → Option ℕ → Bridging
opened w calls e after p to d None = happens w calls (e ∷ []) (tells.Table (Out p to d) ∷ []) after
opened w calls e after p to d (Some q) = handed_on w calls e after q d (plain_at after q)

-- a packet that is put out, where it is all that is told, and else what is told
abbrev pub passed : World → Members → Event → World → List Outcome → Bridging
passed w calls e after (Out p to d ∷ []) = opened w calls e after p to d (onward calls p)
passed w calls e after told = happens w calls (e ∷ []) (map tells.Table told) after

-- a plain port of a joined call is unused
abbrev pub arrived : World → Members → ℕ → Event → Happening → Option ℕ → Bridging
arrived w calls port e h None = passed w calls e h.world h.outcomes
arrived w calls port e h (Some q) = nothing_happens w calls (tells.Table (Dropped port PortUnused))

-- ---- what is said

abbrev pub happened : World → Members → Event → Bridging
happened w calls (Signalled signal) =
    after_signal w calls (Signalled signal) (step w (Signalled signal)) (told_and_parted calls (step w (Signalled signal)).outcomes)
happened w calls (Datagram port from octets) =
    arrived w calls port (Datagram port from octets) (step w (Datagram port from octets)) (onward calls port)

abbrev pub joining : World → Members → CallId → CallId → Joining → Bridging
joining w calls first second (Ok after) = record (nothing_happens w calls (tells.Joined first second)) { calls = after }
joining w calls first second (Err (call, cause)) = nothing_happens w calls (tells.Unjoined call cause)

abbrev pub parting : World → Members → CallId → Result Parting JoinFault → Bridging
parting w calls call (Ok p) = record (nothing_happens w calls (tells.Parted p.pair.first.id p.pair.second.id)) { calls = p.calls }
parting w calls call (Err cause) = nothing_happens w calls (tells.Unjoined call cause)

abbrev pub bridging : World → Members → Said → Bridging
bridging w calls (Happens e) = happened w calls e
bridging w calls (Joins first second) = joining w calls first second (joined first second calls)
bridging w calls (Parts call) = parting w calls call (parted_from call calls)

abbrev pub bridgings_from : World → Members → List Said → List Bridging
bridgings_from w calls [] = []
bridgings_from w calls (s ∷ ss) = bridging w calls s ∷ bridgings_from (bridging w calls s).world (bridging w calls s).calls ss

-- A bridge's run of what its lines say: its parts, the table's events, and what is told.
abbrev pub bridgings : List Said → List Bridging
bridgings said = bridgings_from empty no_members said

abbrev pub bridged_events : List Said → List Event
bridged_events said = flat_map (λ b. b.events) (bridgings said)

abbrev pub bridged_outcomes : List Said → List BridgeOutcome
bridged_outcomes said = flat_map (λ b. b.told) (bridgings said)

-- ---- what stays inside

abbrev pub TellsOut : Bridging → ℕ → Address → List ℕ → Type 0
TellsOut b port to octets = Any (λ o. o ≡ tells.Table (Out port to octets)) b.told

-- At neither plain port of a medium (leg 2 of RTP, leg 3 of RTCP) of a call that is in a pair anything is told as put out.
abbrev pub StaysInside : Bridging → Type 0
StaysInside b = (slot medium leg : ℕ) (to : Address) (octets : List ℕ) → IsInPair b.pairs slot medium → 2 ≤ leg → leg < 4
    → ¬ TellsOut b (port_of_leg slot medium leg) to octets

abbrev pub JoinedStayInside : List Said → Type 0
JoinedStayInside said = All StaysInside (bridgings said)

-- The entry went out of this session of the call: from its secure port, to its secure address, as these octets, which are the
-- sealing (RFC 3711, 3.1 and 3.4) under the entry's key, at its source and index.
abbrev pub LeavesAt : Turn → Entry → ℕ → Address → List ℕ → Call → Session → Type 0
LeavesAt t e port to octets c s =
    IsSealedOutOf t e c s × (secure_leg_port c s ≡ port) × (secure_leg_address s ≡ to) × (text_in s e.key.mki (sealed_by e) ≡ octets)

-- The entry seals this packet, and so it leaves a session that was there.
abbrev pub IsSealOf : Turn → ℕ → Address → List ℕ → List ℕ → Entry → Type 0
IsSealOf t port to packet octets e =
    (e.session.owner.direction ≡ Sealing) × (e.done.packet ≡ packet) × Any (λ c. Any (LeavesAt t e port to octets c) c.sessions) t.before.calls

-- An event opened this packet, and puts it out on that plain port. The event right after it seals the packet: these octets,
-- from this port to this address, are that one sealing, all that the gateway tells of it, and all that is told.
pub record IsCrossing (b : Bridging) (from port : ℕ) (to : Address) (octets : List ℕ) : Type 0 where
  pub first : Event
  pub second : Event
  pub events_are : b.events ≡ first ∷ second ∷ []
  pub opened_to : Address
  pub packet : List ℕ
  pub opened : (step b.before first).outcomes ≡ Out from opened_to packet ∷ []
  pub sealed :
      Any (IsSealOf (turn_of (step b.before first).world second) port to (as_octets packet).items octets) (step (step b.before first).world second).entries
  pub put_out : (step (step b.before first).world second).outcomes ≡ Out port to octets ∷ []
  pub told : b.told ≡ tells.Table (Out port to octets) ∷ []

-- What is told as put out on a secure port (leg 0 of RTP, leg 1 of RTCP) of a joined call was opened, by the event before, in the
-- other call of its pair, at the plain port of the same medium and kind.
abbrev pub Crosses : Bridging → Type 0
Crosses b = (slot other medium leg : ℕ) (to : Address) (octets : List ℕ) → AreJoined b.pairs slot other medium → leg < 2
    → TellsOut b (port_of_leg slot medium leg) to octets → IsCrossing b (port_of_leg other medium (leg + 2)) (port_of_leg slot medium leg) to octets

abbrev pub EachCrossingIsSealed : List Said → Type 0
EachCrossingIsSealed said = All Crosses (bridgings said)

-- the port to which a plain port goes on is the one that goes on to it
abbrev pub GoesBothWays : Bridging → Type 0
GoesBothWays b = (p q : ℕ) → onward b.pairs p ≡ Some q → onward b.pairs q ≡ Some p

abbrev pub EachGoesBothWays : List Said → Type 0
EachGoesBothWays said = All GoesBothWays (bridgings said)
