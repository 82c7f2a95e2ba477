-- A route and the session that it stands for.
use Rattle.std.proofs.Common.{◌≡◌, ℕ, Bool, true, false, cond, List, Result, Ok, Err, refl, sym, ap, ◌∙◌, subst}
use Rattle.sg_base.specs.declared.addresses.Address.{Address}
use Rattle.sg_base.specs.declared.faults.DropCause.{DropCause}
use Rattle.sg_base.specs.declared.addresses.Kind.{Kind}
use Rattle.sg_base.specs.declared.faults.DropCause.TheVariants.{TooLong, SourceUnknown}
use Rattle.sg_media.specs.Answers.{opened_of, sealed_of}
use Rattle.sg_media.specs.declared.inbound.Opened.{Opened}
use Rattle.sg_media.specs.declared.outbound.Sealed.{Sealed}
use Rattle.sg_session.specs.OneSession.{after}
use Rattle.sg_session.specs.Opening.{Taken}
use Rattle.sg_gateway.specs.Passing.{packet_in, datagram_in, taken_towards, taken_from, sent_towards, sent_by}
use Rattle.sg_session.specs.Session.{Done, Session}
use Rattle.sg_session.specs.declared.names.Direction.{Direction}
use Rattle.sg_session.specs.declared.names.Direction.TheVariants.{Opening, Sealing}
use Rattle.sg_gateway.specs.Ports.{address_towards}
use Rattle.sg_call.specs.Handling.{kept_or}
use Rattle.sg_media.specs.Sides.{SideValue, StandsFor}
use Rattle.sg_call.specs.Standing.{SideStandsFor, RouteStandsFor}
use Rattle.sg_call.specs.declared.route.Route.{Route}
use Rattle.sg_call.specs.declared.route.MediaSide.{MediaSide}
use Rattle.sg_call.specs.declared.route.MediaSide.TheVariants.{Opens, Seals}

same_address : (s : Session) (done : List Done) (dir : Direction) → address_towards dir s ≡ address_towards dir (record s { done = done })
same_address s done Opening = refl
same_address s done Sealing = refl

pub route_after : (slot : ℕ) (route : Route) (side : MediaSide) (s : Session) (r : Result Taken DropCause) → RouteStandsFor slot route s → SideStandsFor side (after s r) → RouteStandsFor slot (record route { side = side }) (after s r)
route_after slot route side s (Ok t) h k = record { port = h.port; out = h.out; to = h.to ∙ same_address s (after s (Ok t)).done s.name.owner.direction; plain = h.plain; side = k }
route_after slot route side s (Err cause) h k = record { port = h.port; out = h.out; to = h.to; plain = h.plain; side = k }

pub opens_after : (side : SideValue) (s : Session) (r : Result Taken DropCause) → s.name.owner.direction ≡ Opening → StandsFor side (after s r) → SideStandsFor (Opens side) (after s r)
opens_after side s (Ok t) e h = (e, h)
opens_after side s (Err cause) e h = (e, h)

seals_after : (side : SideValue) (s : Session) (r : Result Taken DropCause) → s.name.owner.direction ≡ Sealing → StandsFor side (after s r) → SideStandsFor (Seals side) (after s r)
seals_after side s (Ok t) e h = (e, h)
seals_after side s (Err cause) e h = (e, h)

module _ (slot : ℕ) (route : Route) (from : Address) (d : List ℕ) (s : Session) (stands : RouteStandsFor slot route s) (side : SideValue) where
  module _ (is : route.side ≡ Opens side) where
    opening : (s.name.owner.direction ≡ Opening) × StandsFor side s
    opening = subst (λ m. SideStandsFor m s) is stands.side

    pub opening_answer : (r : Result (List ℕ) (List ℕ × DropCause)) → (StandsFor side s → r ≡ kept_or d (packet_in (taken_towards from d s Opening))) → r ≡ kept_or d (sent_by s (taken_from from d s))
    opening_answer r answer = answer opening.1 ∙ ap (λ dir. kept_or d (sent_towards s (taken_towards from d s dir) dir)) (sym opening.0)

    pub opening_after : (new : SideValue) → (StandsFor side s → StandsFor new (after s (taken_towards from d s Opening))) → RouteStandsFor slot (record route { side = Opens new }) (after s (taken_from from d s))
    opening_after new left = route_after slot route (Opens new) s (taken_from from d s) stands
        (opens_after new s (taken_from from d s) opening.0 (subst (λ dir. StandsFor new (after s (taken_towards from d s dir))) (sym opening.0) (left opening.1)))

  module _ (is : route.side ≡ Seals side) where
    sealing : (s.name.owner.direction ≡ Sealing) × StandsFor side s
    sealing = subst (λ m. SideStandsFor m s) is stands.side

    pub sealing_answer : (r : Result (List ℕ) (List ℕ × DropCause)) → (s.plain ≡ route.plain → StandsFor side s → r ≡ kept_or d (datagram_in s (taken_towards from d s Sealing))) → r ≡ kept_or d (sent_by s (taken_from from d s))
    sealing_answer r answer = answer (sym stands.plain) sealing.1 ∙ ap (λ dir. kept_or d (sent_towards s (taken_towards from d s dir) dir)) (sym sealing.0)

    pub sealing_after : (new : SideValue) → (s.plain ≡ route.plain → StandsFor side s → StandsFor new (after s (taken_towards from d s Sealing))) → RouteStandsFor slot (record route { side = Seals new }) (after s (taken_from from d s))
    sealing_after new left = route_after slot route (Seals new) s (taken_from from d s) stands
        (seals_after new s (taken_from from d s) sealing.0 (subst (λ dir. StandsFor new (after s (taken_towards from d s dir))) (sym sealing.0) (left (sym stands.plain) sealing.1)))

-- a route whose side stays stays
pub opening_stays : (route : Route) (side new : SideValue) → route.side ≡ Opens side → new ≡ side → record route { side = Opens new } ≡ route
opening_stays route side new is same = λ i. record route { side = (ap Opens same ∙ sym is) i }

pub sealing_stays : (route : Route) (side new : SideValue) → route.side ≡ Seals side → new ≡ side → record route { side = Seals new } ≡ route
sealing_stays route side new is same = λ i. record route { side = (ap Seals same ∙ sym is) i }

-- what no side opens is handed back with its cause
pub refused_so : (kind : Kind) (d : List ℕ) (e : List ℕ × DropCause) (b : Bool) (r : Result Taken DropCause) → b ≡ false → (let x : Result Opened (List ℕ × DropCause) = Err e in x ≡ opened_of kind d r)
    → (let x : Result (List ℕ) (List ℕ × DropCause) = Err e in x ≡ kept_or d (packet_in (cond b (Err TooLong) r)))
refused_so kind d e false (Err cause) is h = let same : e ≡ (d, cause) = cc in ap (λ p. Err p) same
refused_so kind d e b r is h = absurd cc

-- what isn't too long is as the session has it
pub not_too_long : (P : Result Taken DropCause → Type 0) (b : Bool) (r : Result Taken DropCause) → b ≡ false → P r → P (cond b (Err TooLong) r)
not_too_long P true r is h = absurd cc
not_too_long P false r is h = h

-- what no side seals is handed back with its cause
pub seal_refused : (s : Session) (d : List ℕ) (e : List ℕ × DropCause) (b same : Bool) (r : Result Taken DropCause) → b ≡ false → same ≡ true
    → (let x : Result Sealed (List ℕ × DropCause) = Err e in x ≡ sealed_of s d r)
    → (let x : Result (List ℕ) (List ℕ × DropCause) = Err e in x ≡ kept_or d (datagram_in s (cond b (Err TooLong) (cond same r (Err SourceUnknown)))))
seal_refused s d e false true (Err cause) is at h = let same : e ≡ (d, cause) = cc in ap (λ p. Err p) same
seal_refused s d e b same r is at h = absurd cc

-- what comes from there is as the session has it
pub from_there : (P : Result Taken DropCause → Type 0) (b same : Bool) (r : Result Taken DropCause) → b ≡ false → same ≡ true → P r → P (cond b (Err TooLong) (cond same r (Err SourceUnknown)))
from_there P false true r is at h = h
from_there P b same r is at h = absurd cc
