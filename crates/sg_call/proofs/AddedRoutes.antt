-- Routes behind routes.
use Rattle.std.proofs.Common.{◌≡◌, ℕ, ◌+◌, length, List, [], ◌∷◌, ◌++◌, append_assoc, arith, refl, sym, ap, ◌∙◌, subst}
use Rattle.sg_leg.specs.Planned.{Planned, IsPlanned, planned_side, planned_sides}
use Rattle.sg_leg.specs.declared.media_spec.SideSpec.{SideSpec}
use Rattle.sg_session.specs.Session.{Session}
use Rattle.sg_call.proofs.Paired.{stands_append}
use Rattle.sg_leg.specs.Pairs.{EachPair}
use Rattle.sg_call.specs.Adding.{Adds}
use Rattle.sg_call.specs.Standing.{RouteStandsFor}
use Rattle.sg_call.specs.declared.route.Route.{Route}

pub adds_one : (slot : ℕ) (p : Planned) (old new : List Route) (route : Route) → ((s : Session) → IsPlanned p s → RouteStandsFor slot route s) → new ≡ old ++ route ∷ [] → Adds slot (p ∷ []) old new
adds_one slot p old new route stands is ss [] h each = absurd each
adds_one slot p old new route stands is ss (s ∷ []) h each =
    subst (λ l. EachPair (RouteStandsFor slot) l (ss ++ s ∷ [])) (sym is) (stands_append (RouteStandsFor slot) old (route ∷ []) ss (s ∷ []) h (stands s each.0, tt))
adds_one slot p old new route stands is ss (s ∷ (t ∷ ts)) h each = absurd each.1

record Parts (ps qs : List Planned) (ts : List Session) : Type 0 where
  us : List Session
  vs : List Session
  are : ts ≡ us ++ vs
  first : EachPair IsPlanned ps us
  later : EachPair IsPlanned qs vs

parts : (ps qs : List Planned) (ts : List Session) → EachPair IsPlanned (ps ++ qs) ts → Parts ps qs ts
parts [] qs ts each = record { us = []; vs = ts; are = refl; first = tt; later = each }
parts (p ∷ ps) qs [] each = absurd each
parts (p ∷ ps) qs (t ∷ ts) each = let k = parts ps qs ts each.1 in
    record { us = t ∷ k.us; vs = k.vs; are = ap (λ l. t ∷ l) k.are; first = (each.0, k.first); later = k.later }

adds_both : (slot : ℕ) (ps qs : List Planned) (a b c : List Route) → Adds slot ps a b → Adds slot qs b c → Adds slot (ps ++ qs) a c
adds_both slot ps qs a b c first later ss ts h each = let k = parts ps qs ts each in
    subst (EachPair (RouteStandsFor slot) c) (append_assoc ss k.us k.vs ∙ ap (λ l. ss ++ l) (sym k.are)) (later (ss ++ k.us) k.vs (first ss k.us h k.first) k.later)

planned_push : (sides : List SideSpec) (side : SideSpec) → planned_sides (sides ++ side ∷ []) ≡ planned_sides sides ++ planned_side side ∷ []
planned_push [] side = refl
planned_push (first ∷ sides) side = ap (λ l. planned_side first ∷ l) (planned_push sides side)

pub adds_next : (slot : ℕ) (sides : List SideSpec) (side : SideSpec) (start now next : List Route) → Adds slot (planned_sides sides) start now → Adds slot (planned_side side ∷ []) now next
    → Adds slot (planned_sides (sides ++ side ∷ [])) start next
adds_next slot sides side start now next before one =
    subst (λ ps. Adds slot ps start next) (sym (planned_push sides side)) (adds_both slot (planned_sides sides) (planned_side side ∷ []) start now next before one)

pub length_push : {X : Type 0} (xs : List X) (x : X) → length (xs ++ x ∷ []) ≡ length xs + 1
length_push [] x = refl
length_push (y ∷ xs) x = let rest = length_push xs x in omega (arith, rest)
