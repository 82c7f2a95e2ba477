-- What is told as lost shows its cause in the other call, as a drop does at a plain port.
use Rattle.std.specs.Prelude.{◌≡◌, ◌⊎◌, ℕ, ◌+◌, List}
use Rattle.std.specs.List.{All, AllByRecursion, Any}
use Rattle.sg_base.specs.declared.addresses.Address.{Address}
use Rattle.sg_base.specs.declared.faults.DropCause.{DropCause}
use Rattle.sg_base.specs.declared.faults.DropCause.TheVariants.{PortUnused}
use Rattle.sg_conduct.specs.Drops.{IsPortOf, Shows}
use Rattle.sg_gateway.specs.Legs.{plain_leg_address, plain_leg_port}
use Rattle.sg_gateway.specs.Octets.{as_octets}
use Rattle.sg_gateway.specs.World.{Call, World}
use Rattle.sg_session.specs.Session.{Session}
use Rattle.sg_session.specs.declared.names.Direction.TheVariants.{Opening}
use Rattle.sg_pairs.specs.Bridged.{Bridging, Said, bridgings}
use Rattle.sg_pairs.specs.Joined.{port_of_leg}
use Rattle.sg_pairs.specs.Lost.{IsLostOf, opened_world}
use Rattle.sg_pairs.specs.declared.outcomes.BridgeOutcome.TheVariants as tells

-- the session, of its call's generation, puts out by this plain port what it opens
abbrev pub PutsOutBy : ℕ → Call → Session → Type 0
PutsOutBy port c s = (s.name.owner.direction ≡ Opening) × (s.name.owner.generation + 1 ≡ c.generations) × (port ≡ plain_leg_port c s)

-- no call has the port, or nothing is put out by it of the one that has
abbrev pub HasNoPlain : World → ℕ → Type 0
HasNoPlain w port =
    AllByRecursion (λ c. ¬ IsPortOf port c) w.calls ⊎ Any (λ c. IsPortOf port c × AllByRecursion (λ s. ¬ PutsOutBy port c s) c.sessions) w.calls

-- the call that has the port puts out by it to this address
abbrev pub HasPlain : World → ℕ → Address → Type 0
HasPlain w port to = Any (λ c. IsPortOf port c × Any (λ s. PutsOutBy port c s × (to ≡ plain_leg_address s)) c.sessions) w.calls

-- Nothing is put out by the port, and it is unused; or the octets come to it from the address to which its call puts out, and a
-- drop of these shows the cause.
abbrev pub LostShows : World → ℕ → List ℕ → DropCause → Type 0
LostShows w port octets cause = ((cause ≡ PortUnused) × HasNoPlain w port) ⊎ ((from : Address) × HasPlain w port from × Shows w port from octets cause)

-- what is told as lost at a port shows its cause there, in the world behind its opening
abbrev pub LosesByCause : Bridging → Type 0
LosesByCause b = (port : ℕ) (cause : DropCause) → Any (λ o. o ≡ tells.Lost port cause) b.told
    → (l : IsLostOf b port cause) × LostShows (opened_world b (port_of_leg l.slot l.medium l.leg) l.packet l.opens) port (as_octets l.packet).items cause

abbrev pub EachLostShowsCause : List Said → Type 0
EachLostShowsCause said = All LosesByCause (bridgings said)
