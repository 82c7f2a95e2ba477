-- Sessions stay open by all that isn't a tick, an answer or a bye.
use Rattle.std.proofs.Common.{◌≡◌, ℕ, Bool, true, false, cond, List, Some, refl, sym, ap, ◌∙◌, subst, arith, eqb, eqb-true}
use Rattle.std.specs.List.{AllByRecursion, Any}
use Rattle.sg_base.specs.declared.addresses.Address.{Address}
use Rattle.sg_gateway.proofs.Common.{Call, Datagram, Entry, Event, IsBefore, Octets, Session, Signal, Signalled, Taken, World, answer_to, any_weaker, both}
use Rattle.sg_gateway.proofs.Common.{call_after, call_at, each_at_this, given_to, has_port, put, same_name, step, turn_of, with_call, with_done, without_call}
use Rattle.sg_gateway.proofs.CarriedOut.{any_mapped}
use Rattle.sg_gateway.proofs.Kept.{CallKept, IsKept, SessionKept}
use Rattle.sg_gateway.proofs.Ordered.{one_serial}
use Rattle.sg_gateway.proofs.Pairs.{Pairs}
use Rattle.sg_gateway.proofs.Reached.{Anything}
use Rattle.sg_gateway.proofs.Signals.{is_found}
use Rattle.sg_gateway.proofs.StepCases.{each_datagram, each_signal}
use Rattle.sg_gateway.proofs.Lists.{each_of_list}
use Rattle.sg_conduct.proofs.Others.{goes_stays, comes_stays}
use Rattle.sg_conduct.specs.Staying.{IsStillOpen, OpenOffersStay, MayChangeOffers, TakesSessions}

-- an offer leaves the call's sessions as they are
record IsOpened (c d : Call) : Type 0 where
  serial : d.serial ≡ c.serial
  slot : d.slot ≡ c.slot
  sessions : d.sessions ≡ c.sessions

module _ (past : List Entry) (w : World) (kept : IsKept Anything past w) (before : Pairs IsBefore w.calls) (c : Call) (here : Any (λ x. x ≡ c) w.calls) (s : Session) (held : Any (λ x. x ≡ s) c.sessions) where
  abbrev HasIt : Call → Type 0
  HasIt d = (d.slot ≡ c.slot) × Any (λ x. s ≡ record x { done = s.done }) d.sessions

  abbrev Still : World → Type 0
  Still after = Any HasIt after.calls

  by_sessions : (d : Call) → d.slot ≡ c.slot → d.sessions ≡ c.sessions → HasIt d
  by_sessions d slot sessions = (
    slot,
    subst (λ (ss : List Session). Any (λ x. s ≡ record x { done = s.done }) ss) (sym sessions)
        (any_weaker (λ x. x ≡ s) (λ x. s ≡ record x { done = s.done }) (λ x same. sym (ap (λ (x : Session). record x { done = s.done }) same)) c.sessions held),
  )

  stays_there : (cs : List Call) → Any (λ x. x ≡ c) cs → Any HasIt cs
  stays_there cs there = any_weaker (λ x. x ≡ c) HasIt (λ x same. by_sessions x (ap (λ (x : Call). x.slot) same) (ap (λ (x : Call). x.sessions) same)) cs there

  -- a call of its serial number is the call itself
  is_one : (d : Call) → Any (λ x. x ≡ d) w.calls → c.serial ≡ d.serial → c ≡ d
  is_one d there same = each_at_this (λ x. x.serial ≡ d.serial → x ≡ d) w.calls c (one_serial d w.calls before there) here same

  put_still : (d e : Call) → Any (λ x. x ≡ d) w.calls → IsOpened d e → Any HasIt (with_call e w.calls)
  put_still d e there is = any_mapped HasIt (λ x. cond (eqb x.serial e.serial) e x) c w.calls (go (eqb c.serial e.serial) refl) here
    where
      go : (b : Bool) → eqb c.serial e.serial ≡ b → HasIt (cond b e c)
      go false apart = by_sessions c refl refl
      go true same =
          let one : c ≡ d = is_one d there (eqb-true c.serial e.serial same ∙ is.serial) in
          by_sessions e (is.slot ∙ ap (λ (c : Call). c.slot) (sym one)) (is.sessions ∙ ap (λ (c : Call). c.sessions) (sym one))

  -- a call that has a session has a generation
  has_generation : (d : Call) → c ≡ d → d.generations ≡ 0 → ⊥
  has_generation d one none =
      let of_call : CallKept Anything past w.books.ring w.made c = each_at_this (CallKept Anything past w.books.ring w.made) w.calls c kept.calls here in
      let is : SessionKept Anything past w.books.ring c.serial c.generations s = each_at_this (SessionKept Anything past w.books.ring c.serial c.generations) c.sessions s of_call.sessions held in
      let low = is.of_generation in
      let same : c.generations ≡ 0 = ap (λ (c : Call). c.generations) one ∙ none in
      omega (arith, low, same)

  signal_still : (signal : Signal) → (TakesSessions signal → ⊥) → Still (answer_to w signal).world
  signal_still = each_signal w (λ signal a. (TakesSessions signal → ⊥) → Still a.world) (record {
    refuses = λ signal id cause keeps. stays_there w.calls here;
    ticks = λ now on keeps. absurd (keeps tt);
    pairs = λ p keeps. stays_there w.calls here;
    keys = λ h none room ring is keeps. stays_there _ (comes_stays w before c here _);
    begins = λ id way noise text none room a agreed keeps. stays_there _ (comes_stays w before c here _);
    offers = λ id way noise text d at a agreed keeps. put_still d _ (is_found _ w.calls d at) (record { serial = refl; slot = refl; sessions = refl });
    answers = λ id noise text d at o is_open g agreed ring is keeps. absurd (keeps tt);
    rejects = λ id d at none keeps. stays_there (without_call d.serial w.calls) (goes_stays w before c here d (λ same. has_generation d (is_one d (is_found _ w.calls d at) same) none));
    closes = λ id d at keeps. put_still d _ (is_found _ w.calls d at) (record { serial = refl; slot = refl; sessions = refl });
    leaves = λ id d at keeps. absurd (keeps tt);
  })

  -- ---- a datagram

  put_gives : (port : ℕ) (d : Call) → call_at w port ≡ Some d → (x : Session) (t : Taken) (octets : List ℕ) → Still (given_to w port (put w.moment d x t octets)).world
  put_gives port d at x t octets = any_mapped HasIt (λ y. cond (eqb y.serial d.serial) (call_after w.moment d x t) y) c w.calls (go (eqb c.serial d.serial) refl) here
    where
      go : (b : Bool) → eqb c.serial d.serial ≡ b → HasIt (cond b (call_after w.moment d x t) c)
      go false apart = by_sessions c refl refl
      go true same =
          let one : c ≡ d = is_one d (is_found (has_port port) w.calls d at) (eqb-true c.serial d.serial same) in
          subst (λ (d : Call). HasIt (call_after w.moment d x t)) one (
            refl,
            any_mapped (λ y. s ≡ record y { done = s.done }) (with_done x.name t.done) s c.sessions (both (λ (y : Session). s ≡ record y { done = s.done }) (same_name s.name x.name) _ _ refl refl) held,
          )

  arrived_still : (port : ℕ) (from : Address) (d : Octets) → Still (step w (Datagram port from d)).world
  arrived_still port from d = each_datagram w port (λ h. Still h.world) (record { drops = λ cause. stays_there w.calls here; puts = λ e at x t octets on. put_gives port e at x t octets }) from d.items

pub event_still : (past : List Entry) (w : World) → IsKept Anything past w → Pairs IsBefore w.calls → (e : Event) → ((signal : Signal) → e ≡ Signalled signal → TakesSessions signal → ⊥)
    → AllByRecursion (λ c. AllByRecursion (λ s. IsStillOpen c s (step w e).world) c.sessions) w.calls
event_still past w kept before (Signalled signal) keeps =
    each_of_list (λ c. AllByRecursion (λ s. IsStillOpen c s (answer_to w signal).world) c.sessions) w.calls (λ c here.
    each_of_list (λ s. IsStillOpen c s (answer_to w signal).world) c.sessions (λ s held. signal_still past w kept before c here s held signal (keeps signal refl)))
event_still past w kept before (Datagram port from octets) keeps =
    each_of_list (λ c. AllByRecursion (λ s. IsStillOpen c s (step w (Datagram port from octets)).world) c.sessions) w.calls (λ c here.
    each_of_list (λ s. IsStillOpen c s (step w (Datagram port from octets)).world) c.sessions (λ s held. arrived_still past w kept before c here s held port from octets))

-- ---- offers

module _ (w : World) (before : Pairs IsBefore w.calls) (c : Call) (here : Any (λ x. x ≡ c) w.calls) where
  abbrev HasOffer : Call → Type 0
  HasOffer d = (d.id ≡ c.id) × (d.offer ≡ c.offer)

  as_it_was : (cs : List Call) → Any (λ x. x ≡ c) cs → Any HasOffer cs
  as_it_was cs there = any_weaker (λ x. x ≡ c) HasOffer (λ x same. (ap (λ (x : Call). x.id) same, ap (λ (x : Call). x.offer) same)) cs there

  signal_leaves : (signal : Signal) → (MayChangeOffers signal → ⊥) → Any HasOffer (answer_to w signal).world.calls
  signal_leaves = each_signal w (λ signal a. (MayChangeOffers signal → ⊥) → Any HasOffer a.world.calls) (record {
    refuses = λ signal id cause stays. as_it_was w.calls here;
    ticks = λ now on stays. absurd (stays tt);
    pairs = λ p stays. as_it_was w.calls here;
    keys = λ h none room ring is stays. as_it_was _ (comes_stays w before c here _);
    begins = λ id way noise text none room a agreed stays. absurd (stays tt);
    offers = λ id way noise text d at a agreed stays. absurd (stays tt);
    answers = λ id noise text d at o is_open g agreed ring is stays. absurd (stays tt);
    rejects = λ id d at none stays. absurd (stays tt);
    closes = λ id d at stays. absurd (stays tt);
    leaves = λ id d at stays. absurd (stays tt);
  })

  put_leaves : (port : ℕ) (d : Call) → call_at w port ≡ Some d → (x : Session) (t : Taken) (octets : List ℕ) → Any HasOffer (given_to w port (put w.moment d x t octets)).world.calls
  put_leaves port d at x t octets = any_mapped HasOffer (λ y. cond (eqb y.serial d.serial) (call_after w.moment d x t) y) c w.calls (go (eqb c.serial d.serial) refl) here
    where
      go : (b : Bool) → eqb c.serial d.serial ≡ b → HasOffer (cond b (call_after w.moment d x t) c)
      go false apart = (refl, refl)
      go true same =
          let one : c ≡ d = each_at_this (λ x. x.serial ≡ d.serial → x ≡ d) w.calls c (one_serial d w.calls before (is_found (has_port port) w.calls d at)) here (eqb-true c.serial d.serial same) in
          (ap (λ (x : Call). x.id) (sym one), ap (λ (x : Call). x.offer) (sym one))

  event_leaves : (e : Event) → ((signal : Signal) → e ≡ Signalled signal → MayChangeOffers signal → ⊥) → Any HasOffer (step w e).world.calls
  event_leaves (Signalled signal) stays = signal_leaves signal (stays signal refl)
  event_leaves (Datagram port from d) stays =
      each_datagram w port (λ h. Any HasOffer h.world.calls) (record { drops = λ cause. as_it_was w.calls here; puts = λ e at x t octets on. put_leaves port e at x t octets }) from d.items

pub offers_stay : (w : World) → Pairs IsBefore w.calls → (e : Event) → OpenOffersStay (turn_of w e)
offers_stay w before e stays = each_of_list (λ c. Any (λ d. (d.id ≡ c.id) × (d.offer ≡ c.offer)) (step w e).world.calls) w.calls (λ c here. event_leaves w before c here e stays)
