-- What a call keeps by a rejection, a tick and a packet, and that a new one is in the lowest free slot.
use Rattle.std.proofs.Common.{◌≡◌, ◌⊎◌, inl, inr, ℕ, ◌+◌, ◌<◌, ◌≤◌, Bool, true, false, cond, not, ◌||◌, List, [], ◌∷◌, map, Some, None, Ok, Err, refl, sym, ap, ◌∙◌, subst, arith, eqb, ltb}
use Rattle.std.proofs.lemmas.Bool.{eqb-false, eqb-true, ne_eqb}
use Rattle.std.specs.List.{AllByRecursion, Any}
use Rattle.std.specs.Option.{is_some}
use Rattle.sg_base.specs.declared.faults.Refusal.TheVariants.{State, TickBack}
use Rattle.sg_outcome.specs.declared.outcomes.Outcome.{Outcome}
use Rattle.sg_outcome.specs.declared.outcomes.Outcome.TheVariants.{Dropped, Live, Made, Refused, Sdp}
use Rattle.sg_outcome.specs.declared.outcomes.Why.TheVariants as why
use Rattle.sg_session.proofs.Lists.{each_at}
use Rattle.sg_gateway.proofs.Common.{Answer, Call, CallId, Datagram, Event, Offer, Reject, Signal, Signalled, World, and_call, answer_to, any_cases}
use Rattle.sg_gateway.proofs.Common.{IsBefore, at_hand, each_at_this, each_weaker, turns, with_call}
use Rattle.sg_gateway.proofs.Common.{any_here, any_there, any_weaker, both, call_after, call_at_tick, call_of, drops_earlier, each_filter, each_map, each_of}
use Rattle.sg_gateway.proofs.Common.{filter, free_slot, given_to, has_port, is_idle, manual_medium, new_call, other_side, put, refused, side_of, step, tells_ended, turn_of, without_earlier}
use Rattle.sg_gateway.proofs.Agreements.{Agreements}
use Rattle.sg_gateway.proofs.CarriedOut.{found_with, id_found}
use Rattle.sg_gateway.proofs.Datagrams.{every_world}
use Rattle.sg_gateway.proofs.Lists.{all_any, each_of_list}
use Rattle.sg_gateway.proofs.Pairs.{Pairs}
use Rattle.sg_gateway.proofs.Reached.{Anything, anything_had, anything_on}
use Rattle.sg_gateway.proofs.Signals.{each_and_call, each_with_call, found, is_found}
use Rattle.sg_gateway.proofs.StepCases.{after_rejection, after_tick, each_datagram, each_signal, manual_call, renewed_by, settled_offer}
use Rattle.sg_gateway.specs.CallSignals.{media_of}
use Rattle.sg_gateway.specs.Signals.{rejected, rejected_to}
use Rattle.sg_conduct.proofs.Alone.{AllBegun, event_begun, unknown}
use Rattle.sg_conduct.specs.Keeping.{DatagramKeepsPlaces, LaterRejectionStays, MadeIsInLowest, PlacesStay, TickKeepsPlaces}
use Rattle.sg_conduct.specs.Staying.{HasBegun}

-- ---- a rejected later offer

module _ (w : World) (id : CallId) (c : Call) (o : Offer) (at : call_of w id ≡ Some c) (is_open : c.offer ≡ Some o) (more : ¬ c.generations ≡ 0) where
  is_closing : answer_to w (Reject id) ≡ after_rejection w c
  is_closing =
      let later : eqb c.generations 0 ≡ false = ne_eqb c.generations 0 more in
      ap (rejected w id) at ∙ (λ i. rejected_to w c (cond (is_some (is_open i)) (Ok (cond (later i) None (Some (record c { offer = None; moment = w.moment })))) (Err State)))

  closes : ((answer_to w (Reject id)).outcomes ≡ []) × (call_of (answer_to w (Reject id)).world id ≡ Some (record c { offer = None; moment = w.moment }))
  closes = (
    ap (λ (a : Answer). a.outcomes) is_closing,
    ap (λ (a : Answer). call_of a.world id) is_closing ∙ found_with id c (record c { offer = None; moment = w.moment }) w.calls refl (id_found id c w.calls at) at,
  )

pub later_stays : (w : World) (e : Event) → LaterRejectionStays (turn_of w e)
later_stays w e id c o is at is_open more =
    subst (λ (e : Event). ((step w e).outcomes ≡ []) × (call_of (step w e).world id ≡ Some (record c { offer = None; moment = w.moment }))) (sym is) (closes w id c o at is_open more)

-- ---- the lowest free slot

-- each slot from the first on and below the free one is taken
below_free : (m n : ℕ) (cs : List Call) → m ≤ n → n < free_slot m cs → Any (λ c. c.slot ≡ n) cs
below_free m n [] le lt = absurd (omega (arith, le, lt))
below_free m n (c ∷ cs) le lt = go (below_free (m + 1) n cs) (eqb c.slot m) refl lt
  where
    at : (m + 1 ≤ n → Any (λ c. c.slot ≡ n) cs) → c.slot ≡ m → (b : Bool) → eqb m n ≡ b → Any (λ c. c.slot ≡ n) (c ∷ cs)
    at rest here true same = any_here (λ c. c.slot ≡ n) c cs (here ∙ eqb-true m n same)
    at rest here false other = let apart = eqb-false m n other in any_there (λ c. c.slot ≡ n) c cs (rest (omega (arith, le, apart)))

    go : (m + 1 ≤ n → n < free_slot (m + 1) cs → Any (λ c. c.slot ≡ n) cs) → (b : Bool) → eqb c.slot m ≡ b → n < cond b (free_slot (m + 1) cs) m → Any (λ c. c.slot ≡ n) (c ∷ cs)
    go rest true is lt = at (λ le. rest le lt) (eqb-true c.slot m is) (eqb m n) refl
    go rest false is lt = absurd (omega (arith, le, lt))

any_new : (P : Call → Type 0) (d : Call) (cs : List Call) → P d → Any P (and_call d cs)
any_new P d [] p = any_here P d [] p
any_new P d (x ∷ cs) p = go (any_new P d cs p) (ltb d.slot x.slot)
  where
    go : Any P (and_call d cs) → (b : Bool) → Any P (cond b (d ∷ (x ∷ cs)) (x ∷ and_call d cs))
    go rest true = any_here P d (x ∷ cs) p
    go rest false = any_there P x (and_call d cs) rest

module _ (w : World) (id : CallId) (slot media : ℕ) where
  abbrev IsIt : Outcome → Type 0
  IsIt o = o ≡ Made id slot media

  abbrev IsInLowest : World → Type 0
  IsInLowest after = Any (λ (d : Call). (d.id ≡ id) × (d.slot ≡ slot) × (d.media ≡ media)) after.calls × ((n : ℕ) → n < slot → Any (λ (c : Call). c.slot ≡ n) w.calls)

  not_made : (os : List Outcome) → AllByRecursion (λ o. ¬ IsIt o) os → Any IsIt os → ⊥
  not_made os none a = let at = each_at (λ o. ¬ IsIt o) IsIt os none a in at.1 at.2

  is_made : (d : Call) (os : List Outcome) → d.slot ≡ free_slot 0 w.calls → AllByRecursion (λ o. ¬ IsIt o) os → Any IsIt (Made d.id d.slot d.media ∷ os)
      → Any (λ (d : Call). (d.id ≡ id) × (d.slot ≡ slot) × (d.media ≡ media)) (and_call d w.calls) × ((n : ℕ) → n < slot → Any (λ (c : Call). c.slot ≡ n) w.calls)
  is_made d os free none a = elim (any_cases IsIt (Made d.id d.slot d.media) os a) [
    | inl same ↦
        let id_is : d.id ≡ id = cc in
        let slot_is : d.slot ≡ slot = cc in
        let media_is : d.media ≡ media = cc in (
          any_new (λ (d : Call). (d.id ≡ id) × (d.slot ≡ slot) × (d.media ≡ media)) d w.calls (id_is, slot_is, media_is),
          (λ n lt. below_free 0 n w.calls (omega arith) (omega (arith, lt, free, slot_is))),
        )
    | inr more ↦ absurd (not_made os none more)
  ]

  none_by_tick : (now : ℕ) → AllByRecursion (λ o. ¬ IsIt o) (map (tells_ended why.Idle) (filter (is_idle now) w.calls))
  none_by_tick now = each_map (λ (c : Call). Unit {0}) (λ o. ¬ IsIt o) (tells_ended why.Idle) (λ c u is. cc) (filter (is_idle now) w.calls) (each_of (λ (c : Call). Unit {0}) (λ c. tt) (filter (is_idle now) w.calls))

  signal_makes : (signal : Signal) → Any IsIt (answer_to w signal).outcomes → IsInLowest (answer_to w signal).world
  signal_makes = each_signal w (λ signal a. Any IsIt a.outcomes → IsInLowest a.world) (record {
    refuses = λ signal id cause a. absurd (not_made (Refused id cause ∷ []) ((λ is. cc), tt) a);
    ticks = λ now on a. absurd (not_made (map (tells_ended why.Idle) (filter (is_idle now) w.calls)) (none_by_tick now) a);
    pairs = λ p a. absurd (not_made [] tt a);
    keys = λ h none room ring is a. is_made (renewed_by w.moment w.books (manual_call w h) [] (Some (manual_medium h) ∷ []) ring).call (Live h.id ∷ []) refl ((λ is. cc), tt) a;
    begins = λ id way noise text none room g agreed a. is_made (settled_offer w.moment w.books (new_call w id) g).call (Sdp id (other_side (side_of way)) g.text ∷ []) refl ((λ is. cc), tt) a;
    offers = λ id way noise text c at g agreed a. absurd (not_made (Sdp id (other_side (side_of way)) g.text ∷ []) ((λ is. cc), tt) a);
    answers = λ id noise text c at o is_open g agreed ring is a. absurd (not_made (Sdp id o.side g.text ∷ (Live id ∷ [])) ((λ is. cc), ((λ is. cc), tt)) a);
    rejects = λ id c at none a. absurd (not_made (tells_ended why.Rejected c ∷ []) ((λ is. cc), tt) a);
    closes = λ id c at a. absurd (not_made [] tt a);
    leaves = λ id c at a. absurd (not_made (tells_ended why.Bye c ∷ []) ((λ is. cc), tt) a);
  })

  event_makes : (e : Event) → Any IsIt (step w e).outcomes → IsInLowest (step w e).world
  event_makes (Signalled signal) = signal_makes signal
  event_makes (Datagram port from d) = each_datagram w port (λ h. Any IsIt h.outcomes → IsInLowest h.world) (record {
    drops = λ cause a. absurd (not_made (Dropped port cause ∷ []) ((λ is. cc), tt) a);
    puts = λ c at s t octets held a. absurd (not_made (given_to w port (put w.moment c s t octets)).outcomes ((λ is. cc), tt) a);
  }) from d.items

pub made_lowest : (w : World) (e : Event) → MadeIsInLowest (turn_of w e)
made_lowest w e id slot media a = event_makes w id slot media e a

-- ---- a tick and a datagram

module _ (w : World) where
  -- the call is of one that was there, but for its sessions
  abbrev WasThere : Call → Type 0
  WasThere d = Any (λ c. d ≡ record c { sessions = d.sessions }) w.calls

  was_there : (c d : Call) → Any (λ x. x ≡ c) w.calls → d ≡ record c { sessions = d.sessions } → WasThere d
  was_there c d here is = any_weaker (λ x. x ≡ c) (λ x. d ≡ record x { sessions = d.sessions }) (λ x same. is ∙ sym (ap (λ (x : Call). record x { sessions = d.sessions }) same)) w.calls here

  ticked_places : (now : ℕ) (b : Bool) → AllByRecursion WasThere (cond b (refused w None (TickBack w.moment)) (after_tick w now)).world.calls
  ticked_places now true = each_of_list WasThere w.calls (λ c here. was_there c c here refl)
  ticked_places now false =
      each_map (λ c. Any (λ x. x ≡ c) w.calls) WasThere (call_at_tick now) (λ c here. both WasThere (drops_earlier now c) (without_earlier c) c (was_there c (without_earlier c) here refl) (was_there c c here refl))
      (filter (λ c. not (is_idle now c)) w.calls) (each_filter (λ c. Any (λ x. x ≡ c) w.calls) (λ c. not (is_idle now c)) w.calls (all_any w.calls))

  pub tick_keeps_places : (e : Event) → TickKeepsPlaces (turn_of w e)
  tick_keeps_places e now is = subst (λ (e : Event). AllByRecursion WasThere (step w e).world.calls) (sym is) (ticked_places now (ltb now w.moment))

  -- but for its sessions and its moment
  abbrev WasHeard : Call → Type 0
  WasHeard d = Any (λ c. d ≡ record c { sessions = d.sessions; moment = d.moment }) w.calls

  was_heard : (c d : Call) → Any (λ x. x ≡ c) w.calls → d ≡ record c { sessions = d.sessions; moment = d.moment } → WasHeard d
  was_heard c d here is =
      any_weaker (λ x. x ≡ c) (λ x. d ≡ record x { sessions = d.sessions; moment = d.moment }) (λ x same. is ∙ sym (ap (λ (x : Call). record x { sessions = d.sessions; moment = d.moment }) same)) w.calls here

  each_heard : AllByRecursion WasHeard w.calls
  each_heard = each_of_list WasHeard w.calls (λ c here. was_heard c c here refl)

  pub datagram_keeps_places : (e : Event) → DatagramKeepsPlaces (turn_of w e)
  datagram_keeps_places e port from octets is =
      subst (λ (e : Event). AllByRecursion WasHeard (step w e).world.calls) (sym is)
      (each_datagram w port (λ h. AllByRecursion WasHeard h.world.calls) (record {
        drops = λ cause. each_heard;
        puts = λ c at s t sent held. each_with_call WasHeard (call_after w.moment c s t) w.calls (was_heard c (call_after w.moment c s t) (is_found (has_port port) w.calls c at) refl) each_heard;
      }) from octets.items)

-- ---- whatever comes

-- the call of an id is one
one_id : (c : Call) (cs : List Call) → Pairs IsBefore cs → Any (λ x. x ≡ c) cs → AllByRecursion (λ x. x.id ≡ c.id → x ≡ c) cs
one_id c [] p a = tt
one_id c (x ∷ xs) p a = go (λ rest. one_id c xs p.1 rest) (any_cases (λ x. x ≡ c) x xs a)
  where
    go : (Any (λ x. x ≡ c) xs → AllByRecursion (λ x. x.id ≡ c.id → x ≡ c) xs) → (x ≡ c) ⊎ Any (λ x. x ≡ c) xs → AllByRecursion (λ x. x.id ≡ c.id → x ≡ c) (x ∷ xs)
    go more (inl same) = ((λ e. same), each_weaker _ _ (λ y before e. absurd (before.id (ap (λ (c : Call). c.id) same ∙ sym e))) xs p.0)
    go more (inr rest) = ((λ e. absurd ((each_at_this (IsBefore x) xs c p.0 rest).id e)), more rest)

always : (b : Bool) → (b || true) ≡ true
always true = refl
always false = refl

-- a call that has begun has a number of media
media_is : (c : Call) → HasBegun c → media_of c ≡ Some c.media
media_is c begun = ap (λ b. cond b (Some c.media) None) (go (eqb c.generations 0) refl)
  where
    go : (b : Bool) → eqb c.generations 0 ≡ b → (is_some c.offer || not b) ≡ true
    go true none = ap (λ o. is_some o || false) (begun (eqb-true c.generations 0 none)).1
    go false more = always (is_some c.offer)

module _ (laws : Agreements) (w : World) (before : Pairs IsBefore w.calls) (begun : AllBegun w) (c : Call) (here : Any (λ x. x ≡ c) w.calls) where
  abbrev StaysIn : Call → Type 0
  StaysIn d = d.id ≡ c.id → (d.serial ≡ c.serial) × (d.slot ≡ c.slot) × (d.media ≡ c.media)

  goes_on : (x d : Call) → Any (λ y. y ≡ x) w.calls → d.id ≡ x.id → d.serial ≡ x.serial → d.slot ≡ x.slot → d.media ≡ x.media → StaysIn d
  goes_on x d there id serial slot media same =
      let one : x ≡ c = each_at_this (λ x. x.id ≡ c.id → x ≡ c) w.calls x (one_id c w.calls before here) there (sym id ∙ same) in
      (serial ∙ ap (λ (x : Call). x.serial) one, slot ∙ ap (λ (x : Call). x.slot) one, media ∙ ap (λ (x : Call). x.media) one)

  all_in : AllByRecursion StaysIn w.calls
  all_in = each_of_list StaysIn w.calls (λ x there. goes_on x x there refl refl refl refl)

  new_in : (id : CallId) (d : Call) → call_of w id ≡ None → d.id ≡ id → StaysIn d
  new_in id d none own same = absurd (each_at_this (λ x. ¬ x.id ≡ id) w.calls c (unknown w id none) here (sym same ∙ own))

  put_in : (x d : Call) → Any (λ y. y ≡ x) w.calls → d.id ≡ x.id → d.serial ≡ x.serial → d.slot ≡ x.slot → d.media ≡ x.media → AllByRecursion StaysIn (with_call d w.calls)
  put_in x d there id serial slot media = each_with_call StaysIn d w.calls (goes_on x d there id serial slot media) all_in

  gone_in : (x : Call) → AllByRecursion StaysIn (filter (λ y. not (eqb y.serial x.serial)) w.calls)
  gone_in x = each_filter StaysIn (λ y. not (eqb y.serial x.serial)) w.calls all_in

  signal_in : (signal : Signal) → AllByRecursion StaysIn (answer_to w signal).world.calls
  signal_in = each_signal w (λ signal a. AllByRecursion StaysIn a.world.calls) (record {
    refuses = λ signal id cause. all_in;
    ticks = λ now on. each_map StaysIn StaysIn (call_at_tick now) (λ x is. both StaysIn (drops_earlier now x) (without_earlier x) x is is)
        (filter (λ x. not (is_idle now x)) w.calls) (each_filter StaysIn (λ x. not (is_idle now x)) w.calls all_in);
    pairs = λ p. all_in;
    keys = λ h none room ring is. each_and_call StaysIn _ w.calls (new_in h.id (renewed_by w.moment w.books (manual_call w h) [] (Some (manual_medium h) ∷ []) ring).call none refl) all_in;
    begins = λ id way noise text none room a agreed. each_and_call StaysIn _ w.calls (new_in id (settled_offer w.moment w.books (new_call w id) a).call none refl) all_in;
    offers = λ id way noise text x at a agreed. put_in x (settled_offer w.moment w.books x a).call (is_found _ w.calls x at) refl refl refl
        (laws.count (at_hand w.moment w.books x noise) way text a x.media agreed (media_is x (found HasBegun _ w.calls x at begun)));
    answers = λ id noise text x at o is_open g agreed ring is. put_in x (renewed_by w.moment w.books x g.text g.media ring).call (is_found _ w.calls x at) refl refl refl refl;
    rejects = λ id x at none. gone_in x;
    closes = λ id x at. put_in x (record x { offer = None; moment = w.moment }) (is_found _ w.calls x at) refl refl refl refl;
    leaves = λ id x at. gone_in x;
  })

  event_in : (e : Event) → AllByRecursion StaysIn (step w e).world.calls
  event_in (Signalled signal) = signal_in signal
  event_in (Datagram port from d) = each_datagram w port (λ h. AllByRecursion StaysIn h.world.calls) (record {
    drops = λ cause. all_in;
    puts = λ x at s t octets held. put_in x (call_after w.moment x s t) (is_found (has_port port) w.calls x at) refl refl refl refl;
  }) from d.items

pub places_stay : Agreements → (w : World) → Pairs IsBefore w.calls → AllBegun w → (e : Event) → PlacesStay (turn_of w e)
places_stay laws w before begun e =
    each_of_list (λ c. AllByRecursion (λ d. d.id ≡ c.id → (d.serial ≡ c.serial) × (d.slot ≡ c.slot) × (d.media ≡ c.media)) (step w e).world.calls) w.calls (λ c here. event_in laws w before begun c here e)

-- the calls before each event have begun
pub begun_worlds : (es : List Event) → AllByRecursion (λ t. AllBegun t.before) (turns es)
begun_worlds es = (every_world Anything anything_on anything_had (λ w e. Unit {0}) AllBegun (λ past w e kept u b. event_begun w b e) es (each_of (λ t. Unit {0}) (λ t. tt) (turns es)) tt).0
