use Rattle.std.proofs.Common.{◌≡◌, ◌∙◌, ℕ, List, ap, sym, subst}
use Rattle.std.proofs.Math.ListN.{set}
use Rattle.std.proofs.lemmas.List.{length-set, set-get_or, with_items_is}
use Rattle.sg_base.specs.declared.addresses.Address.{Address}
use Rattle.sg_gateway.specs.World.{Call}
use Rattle.sg_call.proofs.Passing.{no_route, by_current, by_earlier, by_either, on_drop}
use Rattle.sg_call.specs.Handling.{IsPassed}
use Rattle.sg_call.specs.Standing.{SessionsStand}
use Rattle.sg_call.specs.Values.{RoutesValue}
use Rattle.sg_call.specs.declared.handled.End.TheVariants.{Dropped}
use Rattle.sg_call.specs.declared.handled.Handled.{Handled}
use Rattle.sg_call.specs.declared.route.Route.{Route}
use Rattle.sg_call.proofs.routes.Routes.pass.Goals as goal

-- the lists that are lent stand for what the routes do, and what is written into them is theirs
standing : (k : Call) (r : RoutesValue) (a b current earlier : List Route) → ◌≡◌ {A = RoutesValue} (record { current = a; earlier = b }) r → current ≡ a → earlier ≡ b → SessionsStand r.current r.earlier k → SessionsStand current earlier k
standing k r a b current earlier are p q s =
    subst (λ l. SessionsStand l earlier k) (sym p) (subst (λ l. SessionsStand a l k) (sym q) (subst (λ (r : RoutesValue). SessionsStand r.current r.earlier k) (sym are) s))

passed_as : (now port : ℕ) (from : Address) (d : List ℕ) (k : Call) (h : Handled) (current earlier xs ys : List Route) → xs ≡ current → ys ≡ earlier → IsPassed now port from d k h current earlier → IsPassed now port from d k h xs ys
passed_as now port from d k h current earlier xs ys p q is = subst (λ l. IsPassed now port from d k h l ys) (sym p) (subst (λ l. IsPassed now port from d k h current l) (sym q) is)

routes_back : (r : RoutesValue) (a b xs ys : List Route) → ◌≡◌ {A = RoutesValue} (record { current = a; earlier = b }) r → xs ≡ a → ys ≡ b → ◌≡◌ {A = RoutesValue} (record { current = xs; earlier = ys }) r
routes_back r a b xs ys are p q = (λ i. record { current = p i; earlier = q i }) ∙ are

pub returns-in-None-None-clause-passed : goal.returns-in-None-None-clause-passed
returns-in-None-None-clause-passed c now k new_is stand =
    let current = c.as_mut_slice-current.result.now in
    let earlier = c.as_mut_slice-earlier.result.now in
    passed_as now c.args.port c.args.from c.args.pad k _ current earlier _ _
    (with_items_is c.self.inside.current current c.as_mut_slice-current.ensures.len) (with_items_is c.self.inside.earlier earlier c.as_mut_slice-earlier.ensures.len)
    (subst (λ u. IsPassed now c.args.port c.args.from c.args.pad k (record { pad = c.args.pad; end = Dropped u }) current earlier) (sym c.unused.ensures)
    (no_route now c.args.port c.args.from c.args.pad k current earlier
    (standing k c.args.self.now c.self.inside.current.items c.self.inside.earlier.items current earlier c.self.view_is c.as_mut_slice-current.ensures.value c.as_mut_slice-earlier.ensures.value stand)
    (sym c.place.ensures ∙ c.in-None-None.is-0) (sym c.place-2.ensures ∙ c.in-None-None.is-1) c.args.is_new new_is))

pub returns-in-None-Some-clause-passed : goal.returns-in-None-Some-clause-passed
returns-in-None-Some-clause-passed c now k new_is stand =
    let current = c.as_mut_slice-current.result.now in
    let earlier = c.as_mut_slice-earlier.result.now in
    passed_as now c.args.port c.args.from c.args.pad k _ current (set earlier c.in-None-Some.j c.pass.new.self) _ _
    (with_items_is c.self.inside.current current c.as_mut_slice-current.ensures.len)
    (with_items_is c.self.inside.earlier (set earlier c.in-None-Some.j c.pass.new.self) (length-set earlier c.in-None-Some.j c.pass.new.self ∙ c.as_mut_slice-earlier.ensures.len))
    (by_earlier now c.args.port c.args.from c.args.pad k current earlier
    (standing k c.args.self.now c.self.inside.current.items c.self.inside.earlier.items current earlier c.self.view_is c.as_mut_slice-current.ensures.value c.as_mut_slice-earlier.ensures.value stand)
    c.in-None-Some.j (sym c.place.ensures ∙ c.in-None-Some.is-0) (sym c.place-2.ensures ∙ c.in-None-Some.is-1)
    c.index-earlier-j.result c.pass.new.self c.pass.result c.pass.ensures.answer c.pass.ensures.after)

pub returns-in-None-Some-clause-refused : goal.returns-in-None-Some-clause-refused
returns-in-None-Some-clause-refused c =
    let current = c.as_mut_slice-current.result.now in
    let earlier = c.as_mut_slice-earlier.result.now in
    on_drop c.pass.result.end
    (λ p. (
      p.0,
      routes_back c.args.self.now c.self.inside.current.items c.self.inside.earlier.items _ _ c.self.view_is
          (with_items_is c.self.inside.current current c.as_mut_slice-current.ensures.len ∙ c.as_mut_slice-current.ensures.value)
          (with_items_is c.self.inside.earlier (set earlier c.in-None-Some.j c.pass.new.self) (length-set earlier c.in-None-Some.j c.pass.new.self ∙ c.as_mut_slice-earlier.ensures.len)
          ∙ ap (set earlier c.in-None-Some.j) p.1 ∙ set-get_or earlier c.in-None-Some.j c.index-earlier-j.result ∙ c.as_mut_slice-earlier.ensures.value),
    ))
    c.pass.ensures.refused

pub returns-in-Some-None-clause-passed : goal.returns-in-Some-None-clause-passed
returns-in-Some-None-clause-passed c now k new_is stand =
    let current = c.as_mut_slice-current.result.now in
    let earlier = c.as_mut_slice-earlier.result.now in
    passed_as now c.args.port c.args.from c.args.pad k _ (set current c.in-Some-None.i c.pass-in-Some-None.new.self) earlier _ _
    (with_items_is c.self.inside.current (set current c.in-Some-None.i c.pass-in-Some-None.new.self) (length-set current c.in-Some-None.i c.pass-in-Some-None.new.self ∙ c.as_mut_slice-current.ensures.len))
    (with_items_is c.self.inside.earlier earlier c.as_mut_slice-earlier.ensures.len)
    (by_current now c.args.port c.args.from c.args.pad k current earlier
    (standing k c.args.self.now c.self.inside.current.items c.self.inside.earlier.items current earlier c.self.view_is c.as_mut_slice-current.ensures.value c.as_mut_slice-earlier.ensures.value stand)
    c.in-Some-None.i (sym c.place.ensures ∙ c.in-Some-None.is-0) (sym c.place-2.ensures ∙ c.in-Some-None.is-1)
    c.index-current-i.result c.pass-in-Some-None.new.self c.pass-in-Some-None.result c.pass-in-Some-None.ensures.answer c.pass-in-Some-None.ensures.after)

pub returns-in-Some-None-clause-refused : goal.returns-in-Some-None-clause-refused
returns-in-Some-None-clause-refused c =
    let current = c.as_mut_slice-current.result.now in
    let earlier = c.as_mut_slice-earlier.result.now in
    on_drop c.pass-in-Some-None.result.end
    (λ p. (
      p.0,
      routes_back c.args.self.now c.self.inside.current.items c.self.inside.earlier.items _ _ c.self.view_is
          (with_items_is c.self.inside.current (set current c.in-Some-None.i c.pass-in-Some-None.new.self) (length-set current c.in-Some-None.i c.pass-in-Some-None.new.self ∙ c.as_mut_slice-current.ensures.len)
          ∙ ap (set current c.in-Some-None.i) p.1 ∙ set-get_or current c.in-Some-None.i c.index-current-i.result ∙ c.as_mut_slice-current.ensures.value)
          (with_items_is c.self.inside.earlier earlier c.as_mut_slice-earlier.ensures.len ∙ c.as_mut_slice-earlier.ensures.value),
    ))
    c.pass-in-Some-None.ensures.refused

pub returns-in-Some-Some-clause-passed : goal.returns-in-Some-Some-clause-passed
returns-in-Some-Some-clause-passed c now k new_is stand =
    let current = c.as_mut_slice-current.result.now in
    let earlier = c.as_mut_slice-earlier.result.now in
    passed_as now c.args.port c.args.from c.args.pad k _ (set current c.in-Some-Some.i c.pass_either.new.current) (set earlier c.in-Some-Some.j c.pass_either.new.earlier) _ _
    (with_items_is c.self.inside.current (set current c.in-Some-Some.i c.pass_either.new.current) (length-set current c.in-Some-Some.i c.pass_either.new.current ∙ c.as_mut_slice-current.ensures.len))
    (with_items_is c.self.inside.earlier (set earlier c.in-Some-Some.j c.pass_either.new.earlier) (length-set earlier c.in-Some-Some.j c.pass_either.new.earlier ∙ c.as_mut_slice-earlier.ensures.len))
    (by_either now c.args.port c.args.from c.args.pad k current earlier
    (standing k c.args.self.now c.self.inside.current.items c.self.inside.earlier.items current earlier c.self.view_is c.as_mut_slice-current.ensures.value c.as_mut_slice-earlier.ensures.value stand)
    c.in-Some-Some.i c.in-Some-Some.j (sym c.place.ensures ∙ c.in-Some-Some.is-0) (sym c.place-2.ensures ∙ c.in-Some-Some.is-1)
    c.index-current-i-in-Some-Some.result c.pass_either.new.current c.index-earlier-j-in-Some-Some.result c.pass_either.new.earlier c.pass_either.result
    c.pass_either.ensures.answer c.pass_either.ensures.current c.pass_either.ensures.earlier)

pub returns-in-Some-Some-clause-refused : goal.returns-in-Some-Some-clause-refused
returns-in-Some-Some-clause-refused c =
    let current = c.as_mut_slice-current.result.now in
    let earlier = c.as_mut_slice-earlier.result.now in
    on_drop c.pass_either.result.end
    (λ p. (
      p.0,
      routes_back c.args.self.now c.self.inside.current.items c.self.inside.earlier.items _ _ c.self.view_is
          (with_items_is c.self.inside.current (set current c.in-Some-Some.i c.pass_either.new.current) (length-set current c.in-Some-Some.i c.pass_either.new.current ∙ c.as_mut_slice-current.ensures.len)
          ∙ ap (set current c.in-Some-Some.i) p.1 ∙ set-get_or current c.in-Some-Some.i c.index-current-i-in-Some-Some.result ∙ c.as_mut_slice-current.ensures.value)
          (with_items_is c.self.inside.earlier (set earlier c.in-Some-Some.j c.pass_either.new.earlier) (length-set earlier c.in-Some-Some.j c.pass_either.new.earlier ∙ c.as_mut_slice-earlier.ensures.len)
          ∙ ap (set earlier c.in-Some-Some.j) p.2 ∙ set-get_or earlier c.in-Some-Some.j c.index-earlier-j-in-Some-Some.result ∙ c.as_mut_slice-earlier.ensures.value),
    ))
    c.pass_either.ensures.refused
