-- What each line makes happen at the gateway, in which world, and what is told where no joined call is in it.
use Rattle.std.specs.Prelude.{◌≡◌, ◌⊎◌, ◌<◌, ◌≤◌, ℕ, List, [], ◌∷◌, map}
use Rattle.sg_base.specs.declared.addresses.Address.{Address}
use Rattle.sg_base.specs.declared.faults.DropCause.TheVariants.{PortUnused}
use Rattle.sg_gateway.specs.Runs.{world_after}
use Rattle.sg_gateway.specs.Step.{Event, Signalled, Datagram, step}
use Rattle.sg_gateway.specs.World.{World, empty}
use Rattle.sg_outcome.specs.declared.outcomes.Outcome.TheVariants.{Out, Dropped}
use Rattle.sg_pairs.specs.Bridged.{Bridging, Said, Happens, Joins, Parts, bridgings}
use Rattle.sg_pairs.specs.Calls.{AllLines}
use Rattle.sg_pairs.specs.Joined.{AreJoined, port_of_leg}
use Rattle.sg_pairs.specs.Pairs.{Members, no_members}
use Rattle.sg_pairs.specs.declared.outcomes.BridgeOutcome.TheVariants as tells

-- the port is a plain one of a medium of a joined call
pub record IsJoinedPort (calls : Members) (port : ℕ) : Type 0 where
  pub slot : ℕ
  pub other : ℕ
  pub medium : ℕ
  pub leg : ℕ
  pub plain : (2 ≤ leg) × (leg < 4)
  pub joined : AreJoined calls slot other medium
  pub is : port ≡ port_of_leg slot medium leg

-- the event puts one packet out by such a port
abbrev pub OpensForJoined : Bridging → Event → Type 0
OpensForJoined b e = (port : ℕ) × (to : Address) × (packet : List ℕ) × ((step b.before e).outcomes ≡ Out port to packet ∷ []) × IsJoinedPort b.pairs port

-- A datagram at such a port is dropped, and nothing happens. Each other one happens; and where it opens nothing for a joined
-- call, nothing more happens, and what the gateway tells of it is told.
abbrev pub DatagramHappens : Event → ℕ → Bridging → Type 0
DatagramHappens e port b =
    (IsJoinedPort b.pairs port × (b.events ≡ []) × (b.told ≡ tells.Table (Dropped port PortUnused) ∷ []))
    ⊎ (¬ IsJoinedPort b.pairs port × ((later : List Event) × (b.events ≡ e ∷ later)
    × (OpensForJoined b e ⊎ ((later ≡ []) × (b.told ≡ map tells.Table (step b.before e).outcomes)))))

-- a signal happens; a line that joins or parts hands nothing to the gateway
abbrev pub LineHappens : Said → Bridging → Type 0
LineHappens (Happens (Signalled signal)) b = b.events ≡ Signalled signal ∷ []
LineHappens (Happens (Datagram port from d)) b = DatagramHappens (Datagram port from d) port b
LineHappens (Joins first second) b = b.events ≡ []
LineHappens (Parts call) b = b.events ≡ []

abbrev pub EachLineHappens : List Said → Type 0
EachLineHappens said = AllLines LineHappens said (bridgings said)

-- Each line is handled in the world that the events of all lines before it have made, with the calls as the line before left them.
abbrev pub ComesBehind : World → Members → List Bridging → Type 0
ComesBehind w calls [] = Unit {0}
ComesBehind w calls (b ∷ bs) = (b.before ≡ w) × (b.pairs ≡ calls) × ComesBehind (world_after w b.events) b.calls bs

abbrev pub EachComesBehind : List Said → Type 0
EachComesBehind said = ComesBehind empty no_members (bridgings said)
