-- What two routes that open hand back of one datagram, of which the second is tried where the first refuses.
use Rattle.std.proofs.Common.{◌≡◌, ℕ, Bool, true, false, cond, List, length, ltb, Result, Ok, Err, refl, sym, ap, ◌∙◌, subst}
use Rattle.sg_base.specs.declared.addresses.Address.{Address}
use Rattle.sg_base.specs.declared.addresses.Kind.{Kind}
use Rattle.sg_base.specs.declared.faults.DropCause.{DropCause}
use Rattle.sg_base.specs.declared.faults.DropCause.TheVariants.{TooLong}
use Rattle.sg_session.specs.OneSession.{after}
use Rattle.sg_session.specs.Opening.{Taken, opens}
use Rattle.sg_session.specs.Session.{Session}
use Rattle.sg_session.specs.declared.names.Direction.{Direction}
use Rattle.sg_session.specs.declared.names.Direction.TheVariants.{Opening, Sealing}
use Rattle.sg_gateway.specs.Passing.{packet_in, sent_by, sent_towards, taken_from, taken_towards}
use Rattle.sg_media.specs.Answers.{opened_of}
use Rattle.sg_media.specs.Either.{first_opened, if_refused}
use Rattle.sg_media.specs.Sides.{SideValue, StandsFor}
use Rattle.sg_media.specs.declared.either.Which.{Which}
use Rattle.sg_media.specs.declared.either.Which.TheVariants.{Current, Earlier}
use Rattle.sg_media.specs.declared.inbound.Opened.{Opened}
use Rattle.sg_call.proofs.OneRoute.{opens_after, route_after}
use Rattle.sg_call.specs.Handling.{handled_by_either}
use Rattle.sg_call.specs.Standing.{OpensFor, RouteStandsFor, SideStandsFor}
use Rattle.sg_call.specs.declared.handled.End.TheVariants.{Out, Dropped}
use Rattle.sg_call.specs.declared.handled.Handled.{Handled}
use Rattle.sg_call.specs.declared.route.Route.{Route}
use Rattle.sg_call.specs.declared.route.MediaSide.TheVariants.{Opens, Seals}

-- what two sides open, handed back
abbrev pub given_by : ℕ → Address → ℕ → Address → Result (Which × Opened) (List ℕ × DropCause) → Handled
given_by out to out' to' (Ok (Current, o)) = record { pad = o.pad; end = Out out to }
given_by out to out' to' (Ok (Earlier, o)) = record { pad = o.pad; end = Out out' to' }
given_by out to out' to' (Err (pad, cause)) = record { pad = pad; end = Dropped cause }

-- one of the two has opened it
pub told_as : (which of_it : Which) (o : Opened) (r x : Result (Which × Opened) (List ℕ × DropCause)) → r ≡ Ok (of_it, o) → of_it ≡ which → r ≡ x → (let y : Result (Which × Opened) (List ℕ × DropCause) = Ok (which, o) in y ≡ x)
told_as which of_it o r x is same e = ap (λ (w : Which). Ok (w, o)) (sym same) ∙ sym is ∙ e

-- a route that seals isn't one of a session that opens
pub no_seal : (slot : ℕ) (route : Route) (s : Session) (side : SideValue) → OpensFor slot route s → route.side ≡ Seals side → ⊥
no_seal slot route s side opening is = two s.name.owner.direction opening.1 (subst (λ m. SideStandsFor m s) is opening.0.side).0
  where
    two : (dir : Direction) → dir ≡ Opening → dir ≡ Sealing → ⊥
    two Opening a b = cc
    two Sealing a b = cc

-- the side of a route that opens stands for its session
pub opening_side : (slot : ℕ) (route : Route) (s : Session) (side : SideValue) → OpensFor slot route s → route.side ≡ Opens side → StandsFor side s
opening_side slot route s side opening is = (subst (λ m. SideStandsFor m s) is opening.0.side).1

module _ (kind other : Kind) (d : List ℕ) (out : ℕ) (to : Address) (out' : ℕ) (to' : Address) where
  fits_both : (b : Bool) (r q : Result Taken DropCause) → b ≡ false
      → given_by out to out' to' (first_opened (opened_of kind d r) (opened_of other d q)) ≡ handled_by_either out to out' to' d (packet_in (cond b (Err TooLong) r)) (packet_in (cond b (Err TooLong) q))
  fits_both true r q e = absurd cc
  fits_both false (Ok t) q e = refl
  fits_both false (Err cause) (Ok t) e = refl
  fits_both false (Err cause) (Err last) e = refl

both_fit : (P : Result Taken DropCause → Result Taken DropCause → Type 0) (b : Bool) (r q : Result Taken DropCause) → b ≡ false → P r q → P (cond b (Err TooLong) r) (cond b (Err TooLong) q)
both_fit P true r q e p = absurd cc
both_fit P false r q e p = p

module _ (from : Address) (d : List ℕ) (s e : Session) (of_s : s.name.owner.direction ≡ Opening) (of_e : e.name.owner.direction ≡ Opening) where
  -- of two that open
  sent : (out : ℕ) (to : Address) (out' : ℕ) (to' : Address)
      → handled_by_either out to out' to' d (packet_in (taken_towards from d s Opening)) (packet_in (taken_towards from d e Opening)) ≡ handled_by_either out to out' to' d (sent_by s (taken_from from d s)) (sent_by e (taken_from from d e))
  sent out to out' to' =
      λ i. handled_by_either out to out' to' d (sent_towards s (taken_towards from d s (sym of_s i)) (sym of_s i)) (sent_towards e (taken_towards from d e (sym of_e i)) (sym of_e i))

  -- what they take, by what they take where they open
  taken : (P : Result Taken DropCause → Result Taken DropCause → Type 0) → P (taken_towards from d s Opening) (taken_towards from d e Opening) → P (taken_from from d s) (taken_from from d e)
  taken P p = subst (λ dir. P (taken_towards from d s dir) (taken_from from d e)) (sym of_s) (subst (λ dir. P (taken_towards from d s Opening) (taken_towards from d e dir)) (sym of_e) p)

  pub either_answers : (out : ℕ) (to : Address) (out' : ℕ) (to' : Address) → ltb 4238 (length d) ≡ false → (x : Result (Which × Opened) (List ℕ × DropCause))
      → x ≡ first_opened (opened_of s.name.kind d (opens s d)) (opened_of e.name.kind d (opens e d))
      → given_by out to out' to' x ≡ handled_by_either out to out' to' d (sent_by s (taken_from from d s)) (sent_by e (taken_from from d e))
  either_answers out to out' to' fits x is =
      ap (given_by out to out' to') is ∙ fits_both s.name.kind e.name.kind d out to out' to' (ltb 4238 (length d)) (opens s d) (opens e d) fits ∙ sent out to out' to'

  module _ (slot : ℕ) (route : Route) (stands : RouteStandsFor slot route e) where
    pub second_takes : ltb 4238 (length d) ≡ false → (side new : SideValue) → route.side ≡ Opens side → (StandsFor side e → StandsFor new (after e (if_refused (opens s d) (opens e d))))
        → RouteStandsFor slot (record route { side = Opens new }) (after e (if_refused (taken_from from d s) (taken_from from d e)))
    second_takes fits side new is left =
        route_after slot route (Opens new) e (if_refused (taken_from from d s) (taken_from from d e)) stands
        (opens_after new e (if_refused (taken_from from d s) (taken_from from d e)) of_e
        (taken (λ r q. StandsFor new (after e (if_refused r q)))
        (both_fit (λ r q. StandsFor new (after e (if_refused r q))) (ltb 4238 (length d)) (opens s d) (opens e d) fits (left (subst (λ m. SideStandsFor m e) is stands.side).1))))
