-- The plain address of a route is that of the session for which it stands.
use Rattle.std.proofs.Common.{◌≡◌, ℕ, true, false, cond, List, [], ◌∷◌, ◌++◌, Option, Some, None, refl, sym, ap, ◌∙◌, subst, eqb}
use Rattle.std.specs.Prelude.{◌&&◌}
use Rattle.std.specs.List.{AllByRecursion}
use Rattle.sg_base.specs.declared.addresses.Address.{Address}
use Rattle.sg_gateway.proofs.GoesOut.{port_out_is, address_out_is}
use Rattle.sg_gateway.specs.Generations.{is_current, is_opening}
use Rattle.sg_gateway.specs.Legs.{plain_leg_address, plain_leg_port}
use Rattle.sg_gateway.specs.World as world
use Rattle.sg_leg.specs.Pairs.{EachPair}
use Rattle.sg_gateway.specs.PlainOf.{plain_in, plain_of}
use Rattle.sg_session.specs.Session.{Session, same_direction}
use Rattle.sg_session.specs.declared.names.Direction.TheVariants.{Opening, Sealing}
use Rattle.sg_call.specs.Adding.{opens_route, opens_side}
use Rattle.sg_call.specs.Onward.{plain_by}
use Rattle.sg_call.specs.Standing.{RouteStandsFor, SessionsStand, SideStandsFor}
use Rattle.sg_call.specs.declared.route.Route.{Route}
use Rattle.sg_call.specs.declared.route.MediaSide.{MediaSide}
use Rattle.sg_call.specs.declared.route.MediaSide.TheVariants.{Opens, Seals}

module _ (c : world.Call) (port : ℕ) where
  abbrev of_session : Session → Option Address → Option Address
  of_session s y = cond (is_current c s && is_opening s && eqb (plain_leg_port c s) port) (Some (plain_leg_address s)) y

  abbrev of_route : Route → Option Address → Option Address
  of_route p x = cond (opens_route p && eqb p.out port) (Some p.to) x

  opening_is : (s : Session) → s.name.owner.direction ≡ Opening → is_opening s ≡ true
  opening_is s is = ap (λ d. same_direction d Opening) is

  sealing_is : (s : Session) → s.name.owner.direction ≡ Sealing → is_opening s ≡ false
  sealing_is s is = ap (λ d. same_direction d Opening) is

  one : (p : Route) (s : Session) → RouteStandsFor c.slot p s → is_current c s ≡ true → (x y : Option Address) → x ≡ y → of_route p x ≡ of_session s y
  one p s h now x y e = go p.side refl
    where
      go : (m : MediaSide) → p.side ≡ m → of_route p x ≡ of_session s y
      go (Opens side) is =
          let opening : s.name.owner.direction ≡ Opening = (subst (λ m. SideStandsFor m s) is h.side).0 in
          let out : p.out ≡ plain_leg_port c s = h.out ∙ port_out_is c s s.name.owner.direction opening in
          let to : p.to ≡ plain_leg_address s = h.to ∙ address_out_is s s.name.owner.direction opening in
          let left : of_route p x ≡ cond (eqb (plain_leg_port c s) port) (Some (plain_leg_address s)) y = λ i. cond (opens_side (is i) && eqb (out i) port) (Some (to i)) (e i) in
          let right : of_session s y ≡ cond (eqb (plain_leg_port c s) port) (Some (plain_leg_address s)) y = λ i. cond (now i && opening_is s opening i && eqb (plain_leg_port c s) port) (Some (plain_leg_address s)) y in
          left ∙ sym right
      go (Seals side) is =
          let sealing : s.name.owner.direction ≡ Sealing = (subst (λ m. SideStandsFor m s) is h.side).0 in
          let left : of_route p x ≡ y = λ i. cond (opens_side (is i) && eqb p.out port) (Some p.to) (e i) in
          let right : of_session s y ≡ y = λ i. cond (now i && sealing_is s sealing i && eqb (plain_leg_port c s) port) (Some (plain_leg_address s)) y in
          left ∙ sym right

  current : (routes : List Route) (ss : List Session) → EachPair (RouteStandsFor c.slot) routes ss → AllByRecursion (λ s. is_current c s ≡ true) ss → plain_by port routes ≡ plain_in c port ss
  current [] [] each now = refl
  current (p ∷ ps) (s ∷ ss) each now = one p s each.0 now.0 _ _ (current ps ss each.1 now.1)
  current routes ss each now = absurd each

  earlier : (ss : List Session) → AllByRecursion (λ s. is_current c s ≡ false) ss → plain_in c port ss ≡ None
  earlier [] before = refl
  earlier (s ∷ ss) before =
      let skip : of_session s (plain_in c port ss) ≡ plain_in c port ss = λ i. cond (before.0 i && is_opening s && eqb (plain_leg_port c s) port) (Some (plain_leg_address s)) (plain_in c port ss) in
      skip ∙ earlier ss before.1

  both : (now before : List Session) → AllByRecursion (λ s. is_current c s ≡ false) before → plain_in c port (now ++ before) ≡ plain_in c port now
  both [] before none = earlier before none
  both (s ∷ ss) before none = ap (of_session s) (both ss before none)

  pub stands_plain : (routes old : List Route) → SessionsStand routes old c → plain_by port routes ≡ plain_of c port
  stands_plain routes old h = current routes h.now h.now_stand.each h.now_current ∙ sym (ap (plain_in c port) h.are ∙ both h.now h.before h.before_not)
