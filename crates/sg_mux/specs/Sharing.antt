-- By which ports what comes to a leg that shares its port is taken, and what leaves goes (RFC 5761, 4).
use Rattle.std.specs.Prelude.{◌≡◌, ◌≤◌, ◌<◌, ◌+◌, ◌-◌, ◌*◌, ℕ, List, [], ◌∷◌, ◌++◌}
use Rattle.sg_base.specs.declared.addresses.Address.{Address}
use Rattle.sg_base.specs.declared.addresses.Side.{Side}
use Rattle.sg_base.specs.declared.addresses.Side.TheVariants.{Secure, Plain}
use Rattle.sg_base.specs.declared.faults.DropCause.{DropCause}
use Rattle.sg_gateway.specs.Octets.{Octets}
use Rattle.sg_gateway.specs.Step.{Event, Datagram}
use Rattle.sg_outcome.specs.declared.outcomes.Outcome.TheVariants.{Dropped}
use Rattle.sg_mux.specs.Latest.{SharesPort, Telling, tellings}
use Rattle.sg_mux.specs.Via.{events_via, passages_via}
use Rattle.sg_passages.specs.Passages.{Leaving, Passage, straight}

-- a leg's port of RTP; that of its RTCP is the next one
abbrev pub rtp_port_of : ℕ → ℕ → Side → ℕ
rtp_port_of slot medium Secure = 20000 + 16 * slot + 4 * medium
rtp_port_of slot medium Plain = 20000 + 16 * slot + 4 * medium + 2

-- it is the port of RTP of a leg that shares it, by what was told
pub record IsShared (told : List Telling) (port : ℕ) : Type 0 where
  pub slot : ℕ
  pub medium : ℕ
  pub side : Side
  pub slots : slot < 256
  pub media : medium < 4
  pub is : port ≡ rtp_port_of slot medium side
  pub shares : SharesPort told slot medium side

-- RTCP, by its packet type: the second octet is 192 to 223
pub record IsReport (octets : List ℕ) : Type 0 where
  pub first : ℕ
  pub type : ℕ
  pub rest : List ℕ
  pub is : octets ≡ first ∷ type ∷ rest
  pub least : 192 ≤ type
  pub most : type ≤ 223

-- The port at which the gateway takes a datagram that comes to this one: RTCP that comes to a shared port is taken at the next
-- one, which is that of RTCP, and all else where it comes.
pub record IsTakenAt (told : List Telling) (port : ℕ) (octets : List ℕ) (at : ℕ) : Type 0 where
  pub shared : IsShared told port → IsReport octets → at ≡ port + 1
  pub other : ¬ (IsShared told port × IsReport octets) → at ≡ port

-- By which port a packet leaves, and to which address: RTCP of a leg that shares its port by that port, and to the port of the
-- same host before the address's; all else by its own.
pub record LeavesBy (told : List Telling) (port : ℕ) (to : Address) (l : Leaving) : Type 0 where
  pub shared : (rtp : ℕ) → IsShared told rtp → port ≡ rtp + 1 → ¬ (to.port ≡ 0) → l ≡ record { port = rtp; to = record { ip = to.ip; port = to.port - 1 } }
  pub other : ¬ ((rtp : ℕ) × IsShared told rtp × (port ≡ rtp + 1) × ¬ (to.port ≡ 0)) → l ≡ straight port to

-- So is the next datagram behind these events taken, and so leaves what it puts out; where it is dropped, that is told at the port
-- to which it came, whether a leg shares that or not.
pub record SharesAsTold (before : List Event) (port : ℕ) (from : Address) (octets : Octets) : Type 0 where
  pub at : ℕ
  pub taken : IsTakenAt (tellings before) port octets.items at
  pub comes : events_via (before ++ Datagram port from octets ∷ []) ≡ events_via before ++ Datagram at from octets ∷ []
  pub passage : Passage
  pub passes : passages_via (before ++ Datagram port from octets ∷ []) ≡ passages_via before ++ passage ∷ []
  pub leaves : (by : ℕ) (to : Address) → LeavesBy (tellings before) by to (passage.leaves by to)
  pub drops : (told : ℕ) (cause : DropCause) → passage.told ≡ Dropped told cause ∷ [] → told ≡ port
