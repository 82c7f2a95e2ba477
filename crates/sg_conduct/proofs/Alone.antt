-- What one kind of signal alone changes, and what signals tell that make no text.
use Rattle.std.proofs.Common.{◌≡◌, ◌⊎◌, ◌↔◌, inl, inr, ℕ, ◌+◌, ◌<◌, ◌≤◌, Bool, true, false, arith, cond, not, List, [], ◌∷◌, ◌++◌, length, map, Option, Some, None, Ok, Err, refl, sym, ap, ◌∙◌, subst, eqb, ltb, eq-eqb}
use Rattle.std.proofs.lemmas.Bool.{and_from, and_parts, false≢true, le-leb, ltb-false, ltb-true}
use Rattle.std.proofs.lemmas.List.Folds.{Any-from_list_any, list_any-from_Any}
use Rattle.std.specs.List.{AllByRecursion, Any}
use Rattle.std.specs.Option.{is_some}
use Rattle.sg_base.specs.declared.faults.Refusal.TheVariants.{PskFull, PskKnown, State, TickBack}
use Rattle.sg_outcome.specs.declared.outcomes.Outcome.TheVariants.{Ended, Live, Refused, Sdp}
use Rattle.sg_outcome.specs.declared.outcomes.Why.TheVariants as why
use Rattle.sg_psk.specs.Pairs.{has_pair, is_of, is_with}
use Rattle.sg_psk.specs.declared.pairs.Pair.{Pair}
use Rattle.sg_session.proofs.Lists.{each_at}
use Rattle.sg_gateway.proofs.Common.{Answer, Call, CallId, Datagram, Event, IsBefore, IsRefusal, Offer, Reject, Signal, Signalled, Tick, World}
use Rattle.sg_gateway.proofs.Common.{Manual, Offered, Way, answer_to, any_here, any_weaker, both, call_after, call_at_tick, call_of, drops_earlier, each_at_this, each_filter, each_map, each_of}
use Rattle.sg_gateway.proofs.Common.{each_weaker, empty, filter, has_port, is_idle, manual_medium, new_call, refused, same_id, same_octets, same_octets_is, same_octets_true, some_is}
use Rattle.sg_gateway.proofs.Common.{step, tells_ended, turn_of, with_call, without_earlier, world_after}
use Rattle.sg_gateway.proofs.CarriedOut.{any_mapped, same_call_id, stays_in}
use Rattle.sg_gateway.proofs.Freed.{Frees, event_frees}
use Rattle.sg_gateway.proofs.Lists.{each_of_list}
use Rattle.sg_gateway.proofs.Ordered.{not_found, one_serial}
use Rattle.sg_gateway.proofs.Pairs.{Pairs}
use Rattle.sg_gateway.proofs.Rested.{arrived_moment}
use Rattle.sg_gateway.proofs.Signals.{each_and_call, each_with_call, found, is_found}
use Rattle.sg_gateway.proofs.StepCases.{after_pair, after_tick, answer_of, each_datagram, each_signal, manual_call, renewed_by, settled_offer}
use Rattle.sg_gateway.specs.Lasting.{IsManualIn}
use Rattle.sg_gateway.specs.Signals.{Answered, Psk, ending, left, rejected, rejected_to}
use Rattle.sg_conduct.specs.Staying.{HasBegun, HasNames, MarksStay, MomentStays, PairsStay, PskIsHeld, RejectedFirstEnds, WasManual}
use Rattle.sg_conduct.specs.ToldTexts.{AnswerTellsLive, ByeIsTold, IdleIsTold, IsEndOrRefusal, OthersTellEnds, TellsTexts}

-- ---- the moment

signal_leaves_moment : (w : World) (signal : Signal) → ((now : ℕ) → signal ≡ Tick now → now < w.moment) → (answer_to w signal).world.moment ≡ w.moment
signal_leaves_moment w = each_signal w (λ signal a. ((now : ℕ) → signal ≡ Tick now → now < w.moment) → a.world.moment ≡ w.moment) (record {
  refuses = λ signal id cause back. refl;
  ticks = λ now on back. let lt = back now refl in absurd (omega (arith, on, lt));
  pairs = λ p back. refl;
  keys = λ h none room ring is back. refl;
  begins = λ id way noise text none room a agreed back. refl;
  offers = λ id way noise text c at a agreed back. refl;
  answers = λ id noise text c at o is_open g agreed ring is back. refl;
  rejects = λ id c at none back. refl;
  closes = λ id c at back. refl;
  leaves = λ id c at back. refl;
})

pub moment_stays : (w : World) (e : Event) → MomentStays (turn_of w e)
moment_stays w (Signalled signal) back = signal_leaves_moment w signal (λ now is. back now (ap (λ s. Signalled s) is))
moment_stays w (Datagram port from d) back = arrived_moment w (Datagram port from d) port from d refl

-- ---- pre-shared keys

signal_leaves_pairs : (w : World) (signal : Signal) → ((p : Pair) → ¬ signal ≡ Psk p) → (answer_to w signal).world.books.pairs ≡ w.books.pairs
signal_leaves_pairs w = each_signal w (λ signal a. ((p : Pair) → ¬ signal ≡ Psk p) → a.world.books.pairs ≡ w.books.pairs) (record {
  refuses = λ signal id cause other. refl;
  ticks = λ now on other. refl;
  pairs = λ p other. absurd (other p refl);
  keys = λ h none room ring is other. refl;
  begins = λ id way noise text none room a agreed other. refl;
  offers = λ id way noise text c at a agreed other. refl;
  answers = λ id noise text c at o is_open g agreed ring is other. refl;
  rejects = λ id c at none other. refl;
  closes = λ id c at other. refl;
  leaves = λ id c at other. refl;
})

pub pairs_stay : (w : World) (e : Event) → PairsStay (turn_of w e)
pairs_stay w (Signalled signal) other = signal_leaves_pairs w signal (λ p is. other p (ap (λ s. Signalled s) is))
pairs_stay w (Datagram port from d) other = each_datagram w port (λ h. h.world.books.pairs ≡ w.books.pairs) (record { drops = λ cause. refl; puts = λ c at s t octets held. refl }) from d.items

module _ (w : World) (p : Pair) where
  abbrev Gives : Answer → Type 0
  Gives a =
      (HasNames w.books.pairs p × (a.outcomes ≡ Refused None PskKnown ∷ []))
      ⊎ ((¬ HasNames w.books.pairs p)
      × (((64 ≤ length w.books.pairs) × (a.outcomes ≡ Refused None PskFull ∷ []))
      ⊎ ((length w.books.pairs < 64) × (a.outcomes ≡ []) × (a.world.books.pairs ≡ w.books.pairs ++ p ∷ []))))

  names_are : (q : Pair) → is_of p.own p.peer q ≡ true → (q.own ≡ p.own) × (q.peer ≡ p.peer)
  names_are q is = let parts = and_parts (same_octets q.own p.own) (is_with p.peer q) is in (same_octets_is q.own p.own parts.0, same_octets_is q.peer p.peer parts.1)

  are_names : (q : Pair) → (q.own ≡ p.own) × (q.peer ≡ p.peer) → is_of p.own p.peer q ≡ true
  are_names q is = and_from (same_octets q.own p.own) (is_with p.peer q) (same_octets_true q.own p.own is.0) (same_octets_true q.peer p.peer is.1)

  pub has_names : has_pair w.books.pairs p.own p.peer ≡ true → HasNames w.books.pairs p
  has_names is = any_weaker _ _ names_are w.books.pairs (Any-from_list_any (is_of p.own p.peer) w.books.pairs is)

  pub no_names : has_pair w.books.pairs p.own p.peer ≡ false → ¬ HasNames w.books.pairs p
  no_names is has = false≢true (sym is ∙ list_any-from_Any (is_of p.own p.peer) w.books.pairs (any_weaker _ _ are_names w.books.pairs has))

  by_tests : (a b : Bool) → has_pair w.books.pairs p.own p.peer ≡ a → ltb (length w.books.pairs) 64 ≡ b
      → Gives (cond a (refused w None PskKnown) (cond b (after_pair w p) (refused w None PskFull)))
  by_tests true b known room = inl (has_names known, refl)
  by_tests false true known room = inr (no_names known, inr (ltb-true (length w.books.pairs) 64 room, refl, refl))
  by_tests false false known room = inr (no_names known, inl (ltb-false (length w.books.pairs) 64 room, refl))

  pub pair_gives : Gives (answer_to w (Psk p))
  pair_gives = by_tests (has_pair w.books.pairs p.own p.peer) (ltb (length w.books.pairs) 64) refl refl

pub psk_is_held : (w : World) (e : Event) → PskIsHeld (turn_of w e)
psk_is_held w e p is =
    subst (λ (e : Event). (HasNames w.books.pairs p × ((step w e).outcomes ≡ Refused None PskKnown ∷ []))
    ⊎ ((¬ HasNames w.books.pairs p)
    × (((64 ≤ length w.books.pairs) × ((step w e).outcomes ≡ Refused None PskFull ∷ []))
    ⊎ ((length w.books.pairs < 64) × ((step w e).outcomes ≡ []) × ((step w e).world.books.pairs ≡ w.books.pairs ++ p ∷ [])))))
    (sym is) (pair_gives w p)

-- ---- marks

-- where no call of the id is found, none has it
pub unknown : (w : World) (id : CallId) → call_of w id ≡ None → AllByRecursion (λ c. ¬ c.id ≡ id) w.calls
unknown w id none = each_weaker (λ c. same_id c.id id ≡ false) (λ c. ¬ c.id ≡ id) (λ c other same. false≢true (sym other ∙ eq-eqb c.id.0 id.0 (ap (λ (i : CallId). i.0) same))) w.calls (not_found (λ c. same_id c.id id) w.calls none)

module _ (w : World) (before : Pairs IsBefore w.calls) (older : AllByRecursion (λ c. c.serial < w.made) w.calls) where
  abbrev Marks : Event → Call → Type 0
  Marks e d = (d.manual ≡ true) ↔ (WasManual (turn_of w e) d ⊎ IsManualIn (turn_of w e) d.id)

  module _ (e : Event) where
    -- a call of the same number, id and mark
    goes_on : (c d : Call) → Any (λ x. x ≡ c) w.calls → d.serial ≡ c.serial → d.id ≡ c.id → d.manual ≡ c.manual → Marks e d
    goes_on c d here serial id manual = (
      λ marked. inl (any_weaker (λ x. x ≡ c) _ (λ x same. (ap (λ (x : Call). x.serial) same ∙ sym serial, ap (λ (x : Call). x.manual) same ∙ sym manual ∙ marked)) w.calls here),
      λ is. elim is [
        | inl was ↦
            let at = each_at (λ x. x.serial ≡ c.serial → x ≡ c) (λ x. (x.serial ≡ d.serial) × (x.manual ≡ true)) w.calls (one_serial c w.calls before here) was in
            manual ∙ sym (ap (λ (x : Call). x.manual) (at.1 (at.2.0 ∙ serial))) ∙ at.2.1
        | inr line ↦ absurd (each_at_this (λ x. ¬ x.id ≡ d.id) w.calls c (unknown w d.id line.3) here (sym id))
      ],
    )

    each_as_before : AllByRecursion (Marks e) w.calls
    each_as_before = each_of_list (Marks e) w.calls (λ c here. goes_on c c here refl refl refl)

    put_marks : (c d : Call) → Any (λ x. x ≡ c) w.calls → d.serial ≡ c.serial → d.id ≡ c.id → d.manual ≡ c.manual → AllByRecursion (Marks e) (with_call d w.calls)
    put_marks c d here serial id manual = each_with_call (Marks e) d w.calls (goes_on c d here serial id manual) each_as_before

    ticked_marks : (now : ℕ) (c : Call) → Marks e c → Marks e (call_at_tick now c)
    ticked_marks now c is = both (Marks e) (drops_earlier now c) (without_earlier c) c is is

  -- a call that an offer makes has no mark
  new_marks : (id : CallId) (way : Way) (noise text : List ℕ) (d : Call) → d.serial ≡ w.made → d.manual ≡ false → Marks (Signalled (Offered id way noise text)) d
  new_marks id way noise text d serial none = (
    λ marked. absurd (false≢true (sym none ∙ marked)),
    λ is. elim is [
      | inl was ↦
          let at = each_at (λ c. c.serial < w.made) (λ c. (c.serial ≡ d.serial) × (c.manual ≡ true)) w.calls older was in
          let lt = at.1 in
          let same = at.2.0 in
          absurd (omega (arith, lt, same, serial))
      | inr line ↦ absurd (let is : Signalled (Offered id way noise text) ≡ Signalled (Manual line.0) = line.2 in cc)
    ],
  )

  signal_marks : (signal : Signal) → AllByRecursion (Marks (Signalled signal)) (answer_to w signal).world.calls
  signal_marks = each_signal w (λ signal a. AllByRecursion (Marks (Signalled signal)) a.world.calls) (record {
    refuses = λ signal id cause. each_as_before (Signalled signal);
    ticks = λ now on. each_map (Marks (Signalled (Tick now))) (Marks (Signalled (Tick now))) (call_at_tick now) (ticked_marks (Signalled (Tick now)) now)
        (filter (λ c. not (is_idle now c)) w.calls) (each_filter (Marks (Signalled (Tick now))) (λ c. not (is_idle now c)) w.calls (each_as_before (Signalled (Tick now))));
    pairs = λ p. each_as_before (Signalled (Psk p));
    keys = λ h none room ring is. each_and_call (Marks _) _ w.calls ((λ marked. inr (h, refl, refl, none)), (λ is. refl)) (each_as_before _);
    begins = λ id way noise text none room a agreed. each_and_call (Marks _) _ w.calls (new_marks id way noise text (settled_offer w.moment w.books (new_call w id) a).call refl refl) (each_as_before _);
    offers = λ id way noise text c at a agreed. put_marks _ c (settled_offer w.moment w.books c a).call (is_found _ w.calls c at) refl refl refl;
    answers = λ id noise text c at o is_open g agreed ring is. put_marks _ c (renewed_by w.moment w.books c g.text g.media ring).call (is_found _ w.calls c at) refl refl refl;
    rejects = λ id c at none. each_filter (Marks _) (λ x. not (eqb x.serial c.serial)) w.calls (each_as_before _);
    closes = λ id c at. put_marks _ c (record c { offer = None; moment = w.moment }) (is_found _ w.calls c at) refl refl refl;
    leaves = λ id c at. each_filter (Marks _) (λ x. not (eqb x.serial c.serial)) w.calls (each_as_before _);
  })

  pub marks_stay : (e : Event) → MarksStay (turn_of w e)
  marks_stay (Signalled signal) = signal_marks signal
  marks_stay (Datagram port from d) = each_datagram w port (λ h. AllByRecursion (Marks (Datagram port from d)) h.world.calls) (record {
    drops = λ cause. each_as_before (Datagram port from d);
    puts = λ c at s t octets held. put_marks (Datagram port from d) c (call_after w.moment c s t) (is_found (has_port port) w.calls c at) refl refl refl;
  }) from d.items

-- ---- a rejected first offer

module _ (w : World) (before : Pairs IsBefore w.calls) (older : AllByRecursion (λ c. c.serial < w.made) w.calls) where
  is_ending : (id : CallId) (c : Call) (o : Offer) → call_of w id ≡ Some c → c.offer ≡ Some o → c.generations ≡ 0 → answer_to w (Reject id) ≡ ending w c why.Rejected
  is_ending id c o at is_open none =
      ap (rejected w id) at
      ∙ (λ i. rejected_to w c (cond (is_some (is_open i)) (Ok (cond (eqb (none i) 0) None (Some (record c { offer = None; moment = w.moment })))) (Err State)))

  ends : (id : CallId) (c : Call) (o : Offer) → call_of w id ≡ Some c → c.offer ≡ Some o → c.generations ≡ 0
      → ((answer_to w (Reject id)).outcomes ≡ Ended id c.slot c.media why.Rejected ∷ []) × (call_of (answer_to w (Reject id)).world id ≡ None)
  ends id c o at is_open none =
      let is : answer_to w (Reject id) ≡ ending w c why.Rejected = is_ending id c o at is_open none in
      let own : c.id ≡ id = same_call_id id c w.calls at in
      let free = subst (λ (a : Answer). AllByRecursion (Frees w a.world) a.outcomes) is (event_frees w before older (Signalled (Reject id))) in (
        ap (λ (a : Answer). a.outcomes) is ∙ ap (λ (i : CallId). Ended i c.slot c.media why.Rejected ∷ []) own,
        ap (λ (a : Answer). call_of a.world id) is ∙ subst (λ i. call_of (ending w c why.Rejected).world i ≡ None) own (free.0 c.id c.slot c.media why.Rejected refl).id_free,
      )

  pub rejected_ends : (e : Event) → RejectedFirstEnds (turn_of w e)
  rejected_ends e id c o is at is_open none =
      subst (λ (e : Event). ((step w e).outcomes ≡ Ended id c.slot c.media why.Rejected ∷ []) × (call_of (step w e).world id ≡ None)) (sym is) (ends id c o at is_open none)

-- ---- calls that have begun

abbrev pub AllBegun : World → Type 0
AllBegun w = AllByRecursion HasBegun w.calls

module _ (w : World) (begun : AllBegun w) where
  abbrev NoRejection : Signal → Type 0
  NoRejection signal = (id : CallId) → ¬ signal ≡ Reject id

  later : (n : ℕ) (c : Call) → c.generations ≡ n + 1 → HasBegun c
  later n c more none = absurd (omega (arith, more, none))

  ticked_begun : (now : ℕ) (c : Call) → HasBegun c → HasBegun (call_at_tick now c)
  ticked_begun now c is = both HasBegun (drops_earlier now c) (without_earlier c) c is is

  goes : (c : Call) → AllByRecursion HasBegun (filter (λ x. not (eqb x.serial c.serial)) w.calls)
  goes c = each_filter HasBegun (λ x. not (eqb x.serial c.serial)) w.calls begun

  rejection_of : (c : Call) (a b : Bool) → eqb c.generations 0 ≡ b
      → AllBegun (rejected_to w c (cond a (Ok (cond b None (Some (record c { offer = None; moment = w.moment })))) (Err State))).world
  rejection_of c true true is = goes c
  rejection_of c true false is = each_with_call HasBegun (record c { offer = None; moment = w.moment }) w.calls (λ none. absurd (false≢true (sym is ∙ eq-eqb c.generations 0 none))) begun
  rejection_of c false b is = begun

  rejection_at : (id : CallId) (o : Option Call) → AllBegun (rejected w id o).world
  rejection_at id None = begun
  rejection_at id (Some c) = rejection_of c (is_some c.offer) (eqb c.generations 0) refl

  others_begun : (signal : Signal) → NoRejection signal → AllBegun (answer_to w signal).world
  others_begun = each_signal w (λ signal a. NoRejection signal → AllBegun a.world) (record {
    refuses = λ signal id cause other. begun;
    ticks = λ now on other. each_map HasBegun HasBegun (call_at_tick now) (ticked_begun now)
        (filter (λ c. not (is_idle now c)) w.calls) (each_filter HasBegun (λ c. not (is_idle now c)) w.calls begun);
    pairs = λ p other. begun;
    keys = λ h none room ring is other. each_and_call HasBegun _ w.calls (later 0 (renewed_by w.moment w.books (manual_call w h) [] (Some (manual_medium h) ∷ []) ring).call refl) begun;
    begins = λ id way noise text none room a agreed other. each_and_call HasBegun _ w.calls (λ zero. (a.offer, refl)) begun;
    offers = λ id way noise text c at a agreed other. each_with_call HasBegun _ w.calls (λ zero. (a.offer, refl)) begun;
    answers = λ id noise text c at o is_open g agreed ring is other. each_with_call HasBegun _ w.calls (later c.generations (renewed_by w.moment w.books c g.text g.media ring).call refl) begun;
    rejects = λ id c at none other. absurd (other id refl);
    closes = λ id c at other. absurd (other id refl);
    leaves = λ id c at other. goes c;
  })

  signal_begun : (signal : Signal) → AllBegun (answer_to w signal).world
  signal_begun (Reject id) = rejection_at id (call_of w id)
  signal_begun signal = others_begun signal (λ id is. absurd cc)

  pub event_begun : (e : Event) → AllBegun (step w e).world
  event_begun (Signalled signal) = signal_begun signal
  event_begun (Datagram port from d) = each_datagram w port (λ h. AllBegun h.world) (record {
    drops = λ cause. begun;
    puts = λ c at s t octets held. each_with_call HasBegun (call_after w.moment c s t) w.calls (found HasBegun (has_port port) w.calls c at begun) begun;
  }) from d.items

all_begun : (w : World) → AllBegun w → (es : List Event) → AllBegun (world_after w es)
all_begun w begun [] = begun
all_begun w begun (e ∷ es) = all_begun (step w e).world (event_begun w begun e) es

pub calls_begun : (es : List Event) → AllBegun (world_after empty es)
calls_begun es = all_begun empty tt es

-- ---- what is told

each_ended : (now : ℕ) (cs : List Call) → AllByRecursion IsEndOrRefusal (map (tells_ended why.Idle) cs)
each_ended now cs = each_map (λ c. Unit {0}) IsEndOrRefusal (tells_ended why.Idle) (λ c u. tt) cs (each_of (λ c. Unit {0}) (λ c. tt) cs)

signal_tells_ends : (w : World) (signal : Signal) → ¬ TellsTexts signal → AllByRecursion IsEndOrRefusal (answer_to w signal).outcomes
signal_tells_ends w = each_signal w (λ signal a. ¬ TellsTexts signal → AllByRecursion IsEndOrRefusal a.outcomes) (record {
  refuses = λ signal id cause other. (tt, tt);
  ticks = λ now on other. each_ended now (filter (is_idle now) w.calls);
  pairs = λ p other. tt;
  keys = λ h none room ring is other. absurd (other tt);
  begins = λ id way noise text none room a agreed other. absurd (other tt);
  offers = λ id way noise text c at a agreed other. absurd (other tt);
  answers = λ id noise text c at o is_open g agreed ring is other. absurd (other tt);
  rejects = λ id c at none other. (tt, tt);
  closes = λ id c at other. tt;
  leaves = λ id c at other. (tt, tt);
})

pub others_tell_ends : (w : World) (e : Event) → OthersTellEnds (turn_of w e)
others_tell_ends w e signal is other = subst (λ (e : Event). AllByRecursion IsEndOrRefusal (step w e).outcomes) (sym is) (signal_tells_ends w signal other)

pub bye_is_told : (w : World) (e : Event) → ByeIsTold (turn_of w e)
bye_is_told w e id c is at =
    ap (λ (e : Event). (step w e).outcomes) is ∙ ap (λ o. (left w id o).outcomes) at ∙ ap (λ (i : CallId). Ended i c.slot c.media why.Bye ∷ []) (same_call_id id c w.calls at)

idle_told : (w : World) (now : ℕ) → w.moment ≤ now → (b : Bool) → ltb now w.moment ≡ b
    → AllByRecursion (λ c. c.moment + 60000 ≤ now → Any (λ o. o ≡ Ended c.id c.slot c.media why.Idle) (cond b (refused w None (TickBack w.moment)) (after_tick w now)).outcomes) w.calls
idle_told w now on true is = let lt = ltb-true now w.moment is in absurd (omega (arith, on, lt))
idle_told w now on false is =
    each_weaker (λ c. is_idle now c ≡ true → Any (λ y. y ≡ c) (filter (is_idle now) w.calls)) _
    (λ c stays le. any_mapped (λ o. o ≡ Ended c.id c.slot c.media why.Idle) (tells_ended why.Idle) c (filter (is_idle now) w.calls) refl (stays (le-leb (c.moment + 60000) now le)))
    w.calls (stays_in (is_idle now) w.calls)

pub idle_is_told : (w : World) (e : Event) → IdleIsTold (turn_of w e)
idle_is_told w e now is on =
    subst (λ (e : Event). AllByRecursion (λ c. c.moment + 60000 ≤ now → Any (λ o. o ≡ Ended c.id c.slot c.media why.Idle) (step w e).outcomes) w.calls) (sym is)
    (idle_told w now on (ltb now w.moment) refl)

module _ (w : World) (id : CallId) (noise text : List ℕ) (c : Call) (o : Offer) (at : call_of w id ≡ Some c) (is_open : c.offer ≡ Some o) where
  abbrev TellsLive : Answer → Type 0
  TellsLive a = ¬ Any IsRefusal a.outcomes → (back : List ℕ) × (a.outcomes ≡ Sdp id o.side back ∷ (Live id ∷ []))

  pub answer_tells_live : TellsLive (answer_to w (Answered id noise text))
  answer_tells_live = answer_of w id noise text c TellsLive (λ cause free. absurd (free (any_here IsRefusal _ [] tt)))
      (λ p offered g agreed ring installs free. (g.text, ap (λ (x : Offer). Sdp id x.side g.text ∷ (Live id ∷ [])) (some_is p o (sym offered ∙ is_open)))) at

pub tells_live : (w : World) (e : Event) → AnswerTellsLive (turn_of w e)
tells_live w e id noise text c o is at is_open =
    subst (λ (e : Event). ¬ Any IsRefusal (step w e).outcomes → (back : List ℕ) × ((step w e).outcomes ≡ Sdp id o.side back ∷ (Live id ∷ []))) (sym is)
    (answer_tells_live w id noise text c o at is_open)
