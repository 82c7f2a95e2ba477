-- What a call forgets: the sessions and calls that its parts stand for.
use Rattle.std.specs.Prelude.{◌≡◌, ℕ, ◌≤◌, true, false, ◌==◌, List, ◌++◌}
use Rattle.std.specs.List.{AllByRecursion}
use Rattle.sg_session.specs.Session.{Session}
use Rattle.sg_session.specs.declared.names.Direction.TheVariants.{Opening, Sealing}
use Rattle.sg_gateway.specs.Passing.{HaveOwnPorts}
use Rattle.sg_gateway.specs.Ports.{leg_of, other_direction, port_at, port_of, address_out}
use Rattle.sg_media.specs.Sides.{StandsFor}
use Rattle.sg_leg.specs.Pairs.{EachPair}
use Rattle.sg_gateway.specs.Generations.{is_current}
use Rattle.sg_gateway.specs.World as world
use Rattle.sg_psk.specs.declared.pairs.Pair.{Pair}
use Rattle.sg_call.specs.States.{StateStandsFor}
use Rattle.sg_call.specs.Values.{CallValue}
use Rattle.sg_call.specs.declared.route.Route.{Route}
use Rattle.sg_call.specs.declared.route.MediaSide.{MediaSide}
use Rattle.sg_call.specs.declared.route.MediaSide.TheVariants.{Opens, Seals}

-- an opening session's side opens, and a sealing one's seals
abbrev pub SideStandsFor : MediaSide → Session → Type 0
SideStandsFor (Opens side) s = (s.name.owner.direction ≡ Opening) × StandsFor side s
SideStandsFor (Seals side) s = (s.name.owner.direction ≡ Sealing) × StandsFor side s

-- A route of a call in this slot stands for a session: its datagrams come to the session's port, and its
-- packets go on from the port on the other side, to the session's address.
pub record RouteStandsFor (slot : ℕ) (route : Route) (s : Session) : Type 0 where
  pub port : route.port ≡ port_of slot s
  pub out : route.out ≡ port_at slot s.name.owner.medium (leg_of (other_direction s.name.owner.direction) s.name.kind)
  pub to : route.to ≡ address_out s
  pub plain : route.plain ≡ s.plain
  pub side : SideStandsFor route.side s

-- the same of a session that opens
abbrev pub OpensFor : ℕ → Route → Session → Type 0
OpensFor slot route s = RouteStandsFor slot route s × (s.name.owner.direction ≡ Opening)

-- routes of a call stand for sessions of which each has a port of its own
pub record RoutesStandFor (slot : ℕ) (routes : List Route) (ss : List Session) : Type 0 where
  pub own : HaveOwnPorts slot ss
  pub each : EachPair (RouteStandsFor slot) routes ss

-- the sessions of a call: those of its current generation, and behind them the earlier ones
pub record SessionsStand (current earlier : List Route) (c : world.Call) : Type 0 where
  pub now : List Session
  pub before : List Session
  pub are : c.sessions ≡ now ++ before
  pub now_stand : RoutesStandFor c.slot current now
  pub before_stand : RoutesStandFor c.slot earlier before
  pub now_current : AllByRecursion (λ s. is_current c s ≡ true) now
  pub before_not : AllByRecursion (λ s. is_current c s ≡ false) before
  pub before_open : AllByRecursion (λ s. s.name.owner.direction ≡ Opening) before

-- a call stands for a call, under the pre-shared pairs of the books
pub record CallStandsFor (pairs : List Pair) (call : CallValue) (c : world.Call) : Type 0 where
  pub id_is : c.id ≡ call.id
  pub slot_is : c.slot ≡ call.slot
  pub media_are : c.media ≡ call.media
  pub few : c.media ≤ 4
  pub new_is : (c.generations == 0) ≡ call.is_new
  pub sessions : SessionsStand call.current call.earlier c
  pub state_stands : StateStandsFor pairs call.state c
  pub replaced_is : c.replaced ≡ call.replaced
  pub moment_is : c.moment ≡ call.moment
