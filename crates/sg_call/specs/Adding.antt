-- Routes that are added for planned sessions.
use Rattle.std.specs.Prelude.{ℕ, Bool, true, false, List, ◌++◌, filter}
use Rattle.sg_base.specs.declared.addresses.Address.{Address}
use Rattle.sg_keys.specs.declared.spec.SessionSpec.{SessionSpec}
use Rattle.sg_session.specs.Session.{Session}
use Rattle.sg_session.specs.declared.names.Direction.{Direction}
use Rattle.sg_leg.specs.Planned.{Planned, IsPlanned}
use Rattle.sg_leg.specs.Pairs.{EachPair}
use Rattle.sg_leg.specs.Values.{LiveValue}
use Rattle.sg_call.specs.Standing.{RouteStandsFor}
use Rattle.sg_call.specs.Values.{CallValue}
use Rattle.sg_call.specs.declared.route.Route.{Route}
use Rattle.sg_call.specs.declared.route.MediaSide.{MediaSide}
use Rattle.sg_call.specs.declared.route.MediaSide.TheVariants.{Opens, Seals}
use Rattle.sg_call.specs.declared.state.State.TheVariants.{Live}

abbrev pub as_planned : ℕ → Direction → SessionSpec → Address → Address → Planned
as_planned medium direction spec secure plain = record { medium = medium; direction = direction; spec = spec; secure = secure; plain = plain }

-- behind routes that stand for some sessions, the routes of the planned ones come
abbrev pub Adds : ℕ → List Planned → List Route → List Route → Type 0
Adds slot ps old new = (ss ts : List Session) → EachPair (RouteStandsFor slot) old ss → EachPair IsPlanned ps ts → EachPair (RouteStandsFor slot) new (ss ++ ts)

abbrev pub opens_side : MediaSide → Bool
opens_side (Opens side) = true
opens_side (Seals side) = false

abbrev pub opens_route : Route → Bool
opens_route route = opens_side route.side

-- The call under a new generation with these routes. Of the generation before, what opens is kept.
abbrev pub renewed_value : CallValue → ℕ → LiveValue → List Route → CallValue
renewed_value call now l routes = record call {
  is_new = false;
  state = Live l;
  current = routes;
  earlier = filter opens_route call.current;
  replaced = now;
  moment = now;
}
