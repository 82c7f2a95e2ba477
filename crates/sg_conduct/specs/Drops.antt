-- Each datagram that is dropped shows the cause that is told: in its octets, in what the session at its port has done, or in the
-- calls that are there.
use Rattle.std.specs.Prelude.{◌≡◌, ◌⊎◌, ◌<◌, ◌≤◌, ℕ, ◌+◌, ◌*◌, List, [], ◌∷◌, length}
use Rattle.std.specs.List.{All, AllByRecursion, Any}
use Rattle.sg_base.specs.declared.addresses.Address.{Address}
use Rattle.sg_base.specs.declared.faults.DropCause.{DropCause}
use Rattle.sg_base.specs.declared.faults.DropCause.TheVariants as causes
use Rattle.sg_outcome.specs.declared.outcomes.Outcome.TheVariants.{Dropped}
use Rattle.sg_session.specs.Session.{Session}
use Rattle.sg_session.specs.declared.names.Direction.TheVariants.{Opening, Sealing}
use Rattle.sg_gateway.specs.Legs.{plain_leg_port, secure_leg_port}
use Rattle.sg_gateway.specs.Octets.{Octets}
use Rattle.sg_gateway.specs.Runs.{Turn, turns}
use Rattle.sg_gateway.specs.Step.{Event, Datagram}
use Rattle.sg_gateway.specs.World.{Call, World}
use Rattle.sg_conduct.specs.Shown.{OpenedShows, SealedShows}

-- ---- in the world before

-- no session of the call that opens what comes to the port is of a later generation
abbrev pub IsLatestAt : ℕ → Call → Session → Type 0
IsLatestAt port c s = AllByRecursion (λ x. x.name.owner.direction ≡ Opening → port ≡ secure_leg_port c x → x.name.owner.generation ≤ s.name.owner.generation) c.sessions

-- the latest session of a call that opens what comes to this secure port is so
abbrev pub Opens : World → ℕ → (Session → Type 0) → Type 0
Opens w port Is = Any (λ c. Any (λ s. (s.name.owner.direction ≡ Opening) × (port ≡ secure_leg_port c s) × IsLatestAt port c s × Is s) c.sessions) w.calls

-- a session of a call that seals what comes to this plain port is so
abbrev pub Seals : World → ℕ → (Session → Type 0) → Type 0
Seals w port Is = Any (λ c. Any (λ s. (s.name.owner.direction ≡ Sealing) × (port ≡ plain_leg_port c s) × Is s) c.sessions) w.calls

-- the port is one of the call's media
abbrev pub IsPortOf : ℕ → Call → Type 0
IsPortOf port c = (20000 + 16 * c.slot ≤ port) × (port < 20000 + 16 * c.slot + 4 * c.media)

-- no session of the call takes what comes to the port
abbrev pub HasNoneAt : ℕ → Call → Type 0
HasNoneAt port c =
    AllByRecursion (λ s. (s.name.owner.direction ≡ Opening → ¬ port ≡ secure_leg_port c s) × (s.name.owner.direction ≡ Sealing → ¬ port ≡ plain_leg_port c s)) c.sessions

abbrev pub Shows : World → ℕ → Address → List ℕ → DropCause → Type 0
Shows w port from d causes.PortUnused = AllByRecursion (λ c. IsPortOf port c → (¬ c.generations ≡ 0) × HasNoneAt port c) w.calls
Shows w port from d causes.NotLive = Any (λ c. IsPortOf port c × (c.generations ≡ 0) × HasNoneAt port c) w.calls
Shows w port from d causes.TooLong = Opens w port (λ s. 4238 < length d) ⊎ Seals w port (λ s. 4096 < length d)
Shows w port from d causes.SourceUnknown = Seals w port (λ s. (length d ≤ 4096) × (¬ from.ip ≡ s.plain.ip))
Shows w port from d cause =
    Opens w port (λ s. (length d ≤ 4238) × OpenedShows s.name.kind s d cause)
    ⊎ Seals w port (λ s. (length d ≤ 4096) × (from.ip ≡ s.plain.ip) × SealedShows s.name.kind s d cause)

-- at whichever port the drop is told
abbrev pub DropShowsCause : Turn → Type 0
DropShowsCause t =
    (port told : ℕ) (from : Address) (d : Octets) (cause : DropCause) → t.event ≡ Datagram port from d → t.outcomes ≡ Dropped told cause ∷ []
    → Shows t.before port from d.items cause

abbrev pub DropsShowCauses : List Event → Type 0
DropsShowCauses events = All DropShowsCause (turns events)
