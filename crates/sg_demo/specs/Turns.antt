-- What a call does in its turn, and what arrives of it.
use Rattle.std.specs.Prelude.{ℕ, ◌+◌, List, [], ◌∷◌, ◌++◌, length, map, fold, option_to_list}
use Rattle.rand_pcg.specs.Lcg.{Lcg}
use Rattle.sg_base.specs.declared.addresses.Address.{Address}
use Rattle.sg_gateway.specs.Octets.{as_octets}
use Rattle.sg_gateway.specs.Step.{Event, Datagram}
use Rattle.sg_demo.specs.Actions.{action_of}
use Rattle.sg_demo.specs.Callers.{Caller, after_plain, after_sealing, next_datagram, next_plain_packet, plain_address, plain_port, secure_address, secure_port}
use Rattle.sg_demo.specs.Packets.{with_last_bit_changed}
use Rattle.sg_demo.specs.Words.{next_word}
use Rattle.sg_demo.specs.declared.action.Action.{Action}
use Rattle.sg_demo.specs.declared.action.Action.TheVariants as action
use Rattle.sg_demo.specs.declared.origin.Origin.{Origin}
use Rattle.sg_demo.specs.declared.origin.Origin.TheVariants as origin

-- a datagram that arrives: from a call's peer, or from the plain side of the call at this position
pub record Arriving : Type 0 where
  pub origin : Origin
  pub port : ℕ
  pub octets : List ℕ

abbrev pub address_of : Origin → Address
address_of origin.Peer = secure_address
address_of (origin.Plain position) = plain_address

abbrev pub origin_of : Arriving → Origin
origin_of a = a.origin

abbrev pub event_of : Arriving → Event
event_of a = Datagram a.port (address_of a.origin) (as_octets a.octets)

-- what the peer of the call sends
abbrev pub from_peer : Caller → List (List ℕ) → List Arriving
from_peer c ds = map (λ d. record { origin = origin.Peer; port = secure_port c; octets = d }) ds

abbrev pub from_plain : ℕ → Caller → List Arriving
from_plain position c = record { origin = origin.Plain position; port = plain_port c; octets = next_plain_packet c } ∷ []

-- a call's turn: the call after it, how many packets its peer has sealed in it, and what arrives of it, in order
pub record Turn : Type 0 where
  pub caller : Caller
  pub sealed : ℕ
  pub arrivals : List Arriving

-- the peer seals its next packet, and this arrives of it
abbrev pub sealed_once : Caller → List (List ℕ) → Turn
sealed_once c ds = record { caller = after_sealing c; sealed = length (next_datagram c); arrivals = from_peer c ds }

-- the peer seals two packets, and the second arrives before the first
abbrev pub sealed_twice : Caller → Caller → Turn
sealed_twice c d = record {
  caller = after_sealing d;
  sealed = length (next_datagram c) + length (next_datagram d);
  arrivals = from_peer c (next_datagram d ++ next_datagram c);
}

-- the turn of the call at this position: the peer's next packet is lost; what it sealed last arrives again; two
-- arrive in the other order; a plain packet arrives; the peer's next packet arrives changed, or as it is
unfoldable pub turn_of : Action → ℕ → Caller → Turn
turn_of action.Lose position c = sealed_once c []
turn_of action.Repeat position c = record { caller = c; sealed = 0; arrivals = from_peer c (option_to_list c.last) }
turn_of action.Swap position c = sealed_twice c (after_sealing c)
turn_of action.Answer position c = record { caller = after_plain c; sealed = 0; arrivals = from_plain position c }
turn_of action.Change position c = sealed_once c (map with_last_bit_changed (next_datagram c))
turn_of action.Send position c = sealed_once c (next_datagram c)

-- the turns of a round so far: the generator and the calls after them, how many packets the peers have sealed, and
-- what arrives, in order
pub record Turns : Type 0 where
  pub words : Lcg
  pub callers : List Caller
  pub sealed : ℕ
  pub arrivals : List Arriving

abbrev pub and_turn : Turns → Lcg → Turn → Turns
and_turn t words turn = record {
  words = words;
  callers = t.callers ++ turn.caller ∷ [];
  sealed = t.sealed + turn.sealed;
  arrivals = t.arrivals ++ turn.arrivals;
}

-- the next call draws a word, and has its turn
abbrev pub with_turn : Turns → Caller → Turns
with_turn t c = and_turn t (next_word t.words).1 (turn_of (action_of (next_word t.words).0) (length t.callers) c)

-- each call has a turn, in order
abbrev pub turns_of : Lcg → List Caller → Turns
turns_of words callers = fold with_turn (record { words = words; callers = []; sealed = 0; arrivals = [] }) callers
