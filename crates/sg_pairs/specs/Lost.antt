-- What becomes of a packet that a joined call opens: it is sealed in the other call, or it is lost, and is told once.
use Rattle.std.specs.Prelude.{◌≡◌, ◌⊎◌, ◌<◌, ◌≤◌, ℕ, List, [], ◌∷◌, Some, None}
use Rattle.std.specs.List.{All, Any}
use Rattle.sg_base.specs.declared.addresses.Address.{Address}
use Rattle.sg_base.specs.declared.faults.DropCause.{DropCause}
use Rattle.sg_base.specs.declared.faults.DropCause.TheVariants.{PortUnused}
use Rattle.sg_gateway.specs.Octets.{as_octets}
use Rattle.sg_gateway.specs.PlainOf.{plain_at}
use Rattle.sg_gateway.specs.Step.{Event, Datagram, step}
use Rattle.sg_gateway.specs.World.{World}
use Rattle.sg_outcome.specs.declared.outcomes.Outcome.TheVariants.{Out, Dropped}
use Rattle.sg_pairs.specs.Bridged.{Bridging, Said, bridgings}
use Rattle.sg_pairs.specs.Joined.{AreJoined, port_of_leg}
use Rattle.sg_pairs.specs.declared.outcomes.BridgeOutcome.TheVariants as tells

-- the first event puts this packet out on this port
pub record Opens (b : Bridging) (port : ℕ) (packet : List ℕ) : Type 0 where
  pub event : Event
  pub later : List Event
  pub events_are : b.events ≡ event ∷ later
  pub to : Address
  pub opened : (step b.before event).outcomes ≡ Out port to packet ∷ []

-- the world behind it, in which the packet comes to the other call
abbrev pub opened_world : (b : Bridging) (port : ℕ) (packet : List ℕ) → Opens b port packet → World
opened_world b port packet o = (step b.before o.event).world

-- In this world no plain address is at the other call's plain port: nothing more happens.
pub record HasNoAddress (w : World) (q : ℕ) (later : List Event) : Type 0 where
  pub none : plain_at w q ≡ None
  pub later_are : later ≡ []

-- The packet comes to that port from the plain address there, and that gives this.
pub record ComesThere (w : World) (q : ℕ) (packet : List ℕ) (later : List Event) : Type 0 where
  pub from : Address
  pub address : plain_at w q ≡ Some from
  pub later_are : later ≡ Datagram q from (as_octets packet) ∷ []

abbrev pub inner_of : (w : World) (q : ℕ) (packet : List ℕ) (later : List Event) → ComesThere w q packet later → Event
inner_of w q packet later c = Datagram q c.from (as_octets packet)

-- the other call refuses it with this cause
pub record IsRefusedThere (w : World) (q : ℕ) (packet : List ℕ) (later : List Event) (cause : DropCause) : Type 0 where
  pub comes : ComesThere w q packet later
  pub refused : (step w (inner_of w q packet later comes)).outcomes ≡ Dropped q cause ∷ []

-- no address is there, or it is refused with this cause
abbrev pub IsLost : World → ℕ → List ℕ → List Event → DropCause → Type 0
IsLost w q packet later cause = (HasNoAddress w q later × (cause ≡ PortUnused)) ⊎ IsRefusedThere w q packet later cause

-- the other call puts these octets out
pub record IsPutOutThere (w : World) (q : ℕ) (packet : List ℕ) (later : List Event) (port : ℕ) (to : Address) (octets : List ℕ) : Type 0 where
  pub comes : ComesThere w q packet later
  pub put : (step w (inner_of w q packet later comes)).outcomes ≡ Out port to octets ∷ []

-- it is lost, or put out in the other call, and that is all that is told
abbrev pub IsSettled : (b : Bridging) → World → ℕ → List ℕ → List Event → Type 0
IsSettled b w q packet later =
    ((cause : DropCause) × IsLost w q packet later cause × (b.told ≡ tells.Lost q cause ∷ []))
    ⊎ ((port : ℕ) × (to : Address) × (octets : List ℕ) × IsPutOutThere w q packet later port to octets × (b.told ≡ tells.Table (Out port to octets) ∷ []))

-- each packet that is opened for a joined call is settled in the other
abbrev pub SettlesWhatOpens : Bridging → Type 0
SettlesWhatOpens b = (slot other medium leg : ℕ) (packet : List ℕ) → AreJoined b.pairs slot other medium → 2 ≤ leg → leg < 4
    → (o : Opens b (port_of_leg slot medium leg) packet) → IsSettled b (opened_world b (port_of_leg slot medium leg) packet o) (port_of_leg other medium leg) packet o.later

-- A joined call opened this packet, which is lost at the other call's plain port with this cause: that is all that is told.
pub record IsLostOf (b : Bridging) (q : ℕ) (cause : DropCause) : Type 0 where
  pub slot : ℕ
  pub other : ℕ
  pub medium : ℕ
  pub leg : ℕ
  pub plain : (2 ≤ leg) × (leg < 4)
  pub joined : AreJoined b.pairs slot other medium
  pub q_is : q ≡ port_of_leg other medium leg
  pub packet : List ℕ
  pub opens : Opens b (port_of_leg slot medium leg) packet
  pub lost : IsLost (opened_world b (port_of_leg slot medium leg) packet opens) q packet opens.later cause
  pub told : b.told ≡ tells.Lost q cause ∷ []

-- what is told as lost is lost
abbrev pub LosesOnlySo : Bridging → Type 0
LosesOnlySo b = (q : ℕ) (cause : DropCause) → Any (λ o. o ≡ tells.Lost q cause) b.told → IsLostOf b q cause

abbrev pub EachOpenedIsSettled : List Said → Type 0
EachOpenedIsSettled said = All SettlesWhatOpens (bridgings said)

abbrev pub EachLostIsRefused : List Said → Type 0
EachLostIsRefused said = All LosesOnlySo (bridgings said)
