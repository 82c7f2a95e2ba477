-- What a line of a relay makes of what was taken of the outside.
use Rattle.std.proofs.Common.{◌≡◌, ◌+◌, ℕ, List, [], ◌∷◌, ◌++◌, length, Option, Some, None, Result, Ok, Err, refl, sym, ap, ap₂, ◌∙◌, subst, inl, inr, arith, IfErr, option_map, append-nil}
use Rattle.sg_relay.proofs.Common.{Act, Acting, AreDue, AreGood, AreInOrder, ForReading, ForReceive, Gives, GoInOrder, IsBegun, IsDone, IsGiven, IsLineCut}
use Rattle.sg_relay.proofs.Common.{IsLineInOrder, IsOfOutcomes, IsOfSignals, IsOfWaits, IsSaid, IsStopped, IsWaitCut, IsWaitInOrder, IsWaited, IsWaiting}
use Rattle.sg_relay.proofs.Common.{Later, Link, LinkCall, NoMemory, Noise, Outside, Received, Status, Stop, StopsWith, Weaves, Write, behind_given, moment_of}
use Rattle.sg_relay.proofs.Common.{receipts_in, said, taken, taking, waited, waited_or_given, with_deeds}
use Rattle.sg_relay.proofs.Deeds.{done_none}
use Rattle.sg_relay.proofs.Order.{due_none, order_none}
use Rattle.sg_relay.proofs.Waits.{of_outcomes, of_signals, of_turns}

-- ---- a line at which the relay waits

module _ {L S D : Type 0} (w : Weaves L D) (acting : Acting S D) (began : ℕ) (l : L) (moment : ℕ) (is : w.waits l ≡ Some moment) where
  said_wait : (later : Later D) (top : ℕ) (o : Outside) → said w began l later top o ≡ waited w (began + moment) later top o.readings o.receipts o.draws
  said_wait later top o = ap (λ (wait : Option ℕ). waited_or_given w l (option_map (λ m. began + m) wait) later top o) is

  module _ (state : S) (top top' turns turns' : ℕ) (stands_for : S → Type 0) (readings : List ℕ) (calls : List LinkCall) (out : List ℕ) where
    -- a line at which a wait stops
    at_stop : (stop : Stop) (calls : List LinkCall) → IsWaiting stop w acting (began + moment) state top readings calls out → IsStopped w acting began l state top stop readings calls [] out
    at_stop stop calls at = record { deeds = at.deeds; stops = λ later. said_wait later top _ ∙ at.stops later []; done = at.done; good = at.good }

    cut_so : (s : Status) → IsWaitCut s w acting (began + moment) state top readings calls out → IsLineCut s w acting began l state top readings calls [] out
    cut_so s (ds, rest, stops, pairs) = (ds, (λ later. ((rest later []).0, said_wait later top _ ∙ (rest later []).1)), stops, pairs)

    cut_link : (T : Type 0) → IsWaited (Err Link) w acting (began + moment) state top top' turns turns' stands_for readings calls out
        → (let r : Result T Status = Err Link in IsSaid r w acting began l state top top' turns turns' stands_for readings calls [] out)
    cut_link T (inl ((before, failed, at), paced), few) = (inl ((before, failed, at_stop ForReceive before at), paced), few)
    cut_link T (inr cut, few) = (inr (cut_so Link cut), few)

    -- the wait was cut
    wait_cut : (T : Type 0) (s : Status) → IsOfWaits s → IsWaited (Err s) w acting (began + moment) state top top' turns turns' stands_for readings calls out
        → (let r : Result T Status = Err s in IsSaid r w acting began l state top top' turns turns' stands_for readings calls [] out)
    wait_cut T s (inl same) waited = subst
        (λ (x : Status). IsWaited (Err x) w acting (began + moment) state top top' turns turns' stands_for readings calls out → (let r : Result T Status = Err x in IsSaid r w acting began l state top top' turns turns' stands_for readings calls [] out))
        (sym same) (λ (at, paced, all). (at_stop ForReading calls at, paced, all)) waited
    wait_cut T s (inr only) waited = of_turns
        (λ (x : Status). IsWaited (Err x) w acting (began + moment) state top top' turns turns' stands_for readings calls out → (let r : Result T Status = Err x in IsSaid r w acting began l state top top' turns turns' stands_for readings calls [] out))
        s only (λ (at, paced, few). (at_stop ForReading calls at, paced, few)) (λ (cut, few). (cut_so Write cut, few)) (cut_link T) (λ (cut, few). (cut_so NoMemory cut, few)) waited

    -- a wait at a line
    pub wait_said : (r : Result (List ℕ) Status) → IfErr r IsOfWaits → IsWaited r w acting (began + moment) state top top' turns turns' stands_for readings calls out
        → IsSaid r w acting began l state top top' turns turns' stands_for readings calls [] out
    wait_said (Ok pad) only (ds, goes, done, good, stands, paced, counted) =
        (ds, (λ later o. said_wait later top _ ∙ goes later o.readings o.receipts o.draws), done, good, stands, paced, counted)
    wait_said (Err s) only waited = wait_cut (List ℕ) s only waited

    -- its calls are in order
    pub wait_line_order : IsWaitInOrder w acting (began + moment) state top readings calls → IsLineInOrder w acting began l state top readings calls []
    wait_line_order order later o = (
      subst (λ (f : List Received → List Act). AreInOrder f calls) (λ i xs. acting.acts state (sym (said_wait later top (taken (readings ++ o.readings) xs o.draws)) i).deeds) (order later o.readings o.draws).0,
      subst (λ (f : List Received → Stop). AreDue f calls) (λ i xs. (sym (said_wait later top (taken (readings ++ o.readings) xs o.draws)) i).stop) (order later o.readings o.draws).1,
    )

-- ---- another line

module _ {L S D : Type 0} (w : Weaves L D) (acting : Acting S D) (law : GoInOrder acting) (began : ℕ) (l : L) (is : w.waits l ≡ None) (state : S) (top turns : ℕ) (stands_for : S → Type 0) (calls : List LinkCall) (draws out : List ℕ) where
  said_given : (later : Later D) (o : Outside) → said w began l later top o ≡ behind_given (w.gives l o.draws) later top o
  said_given later o = ap (λ (wait : Option ℕ). waited_or_given w l (option_map (λ m. began + m) wait) later top o) is

  -- a line that gives these deeds
  says : (ds : List D) → Gives (w.gives l) draws ds → receipts_in calls ≡ [] → (later : Later D) (o : Outside) → said w began l later top (taking [] (receipts_in calls) draws o) ≡ with_deeds ds (later top o)
  says ds gives none later o =
      ap (λ (xs : List Received). said w began l later top (taking [] xs draws o)) none ∙ said_given later (taking [] [] draws o)
      ∙ ap (λ given. behind_given given later top (taking [] [] draws o)) (gives o.draws)

  -- a draw failed
  undrawn : (T : Type 0) → (let r : Result T Status = Err Noise in IsGiven r (w.gives l) acting state stands_for calls draws out)
      → (let r : Result T Status = Err Noise in IsSaid r w acting began l state top top turns turns stands_for [] calls draws out)
  undrawn T (undrew, lacks, uncalled, unwritten) = (
    record {
      deeds = [];
      stops = λ later.
          ap₂ (λ (xs : List Received) (d : List ℕ). said w began l later top (taken [] xs d)) (ap receipts_in uncalled) undrew
          ∙ said_given later (taken [] [] []) ∙ ap (λ given. behind_given given later top (taken [] [] [])) lacks;
      done = subst (λ (os : List Act). IsDone os calls out) (sym (law.none_done state)) (subst (λ (c : List LinkCall). IsDone [] c out) (sym uncalled) (subst (λ (o : List ℕ). IsDone [] [] o) (sym unwritten) done_none));
      good = subst AreGood (sym uncalled) tt;
    },
    sym (ap (λ (c : List LinkCall). length (receipts_in c)) uncalled),
    omega arith,
  )

  cut_line : (s : Status) → (ds : List D) × Gives (w.gives l) draws ds × StopsWith s (acting.acts state ds) calls out × (receipts_in calls ≡ []) → IsLineCut s w acting began l state top [] calls draws out
  cut_line s (ds, gives, stops, none) = (
    ds,
    (λ later. (
      later top (taken [] [] []),
      ap₂ (λ (xs : List Received) (d : List ℕ). said w began l later top (taken [] xs d)) (sym (append-nil (receipts_in calls))) (sym (append-nil draws)) ∙ says ds gives none later (taken [] [] []),
    )),
    stops,
    inl (sym (ap length none)),
  )

  -- what a line gives was handled, or in part
  pub given_said : {T : Type 0} (r : Result T Status) → IfErr r IsOfSignals → IsGiven r (w.gives l) acting state stands_for calls draws out
      → IsSaid r w acting began l state top top turns turns stands_for [] calls draws out
  given_said (Ok x) only (ds, gives, done, good, none, stands) = (ds, says ds gives none, done, good, stands, sym (ap length none), omega arith)
  given_said {T} (Err s) only given = of_signals
      (λ (x : Status). (let r : Result T Status = Err x in IsGiven r (w.gives l) acting state stands_for calls draws out) → (let r : Result T Status = Err x in IsSaid r w acting began l state top top turns turns stands_for [] calls draws out))
      s only (undrawn T) (λ given. (cut_line Write given, omega arith)) (λ given. (inr (cut_line Link given), omega arith)) (λ given. (cut_line NoMemory given, omega arith)) given

  -- nothing was received
  given_none : {T : Type 0} (r : Result T Status) → IfErr r IsOfSignals → IsGiven r (w.gives l) acting state stands_for calls draws out → receipts_in calls ≡ []
  given_none (Ok x) only given = given.4
  given_none {T} (Err s) only given = of_signals (λ (x : Status). (let r : Result T Status = Err x in IsGiven r (w.gives l) acting state stands_for calls draws out) → receipts_in calls ≡ [])
      s only (λ given. ap receipts_in given.2) (λ given. given.3) (λ given. given.3) (λ given. given.3) given

  -- so its calls are in order
  pub given_order : {T : Type 0} (r : Result T Status) → IfErr r IsOfSignals → IsGiven r (w.gives l) acting state stands_for calls draws out → IsLineInOrder w acting began l state top [] calls draws
  given_order r only given = λ later o. (
    order_none (λ receipts. acting.acts state (said w began l later top (taken o.readings receipts (draws ++ o.draws))).deeds) calls (given_none r only given),
    due_none (λ receipts. (said w began l later top (taken o.readings receipts (draws ++ o.draws))).stop) calls (given_none r only given),
  )

-- ---- the first reading

pub cut_begun : {L S D : Type 0} (w : Weaves L D) (acting : Acting S D) (s : Status) (state : S) (stands_for : S → Type 0) (r : ℕ) (calls : List LinkCall) (out : List ℕ) → IsOfOutcomes s
    → StopsWith s (acting.acts state (w.ticks (moment_of r))) calls out × (receipts_in calls ≡ []) → IsBegun (Err s) w acting state stands_for (r ∷ []) calls out
cut_begun w acting s state stands_for r calls out only = of_outcomes
    (λ (x : Status). StopsWith x (acting.acts state (w.ticks (moment_of r))) calls out × (receipts_in calls ≡ []) → IsBegun (Err x) w acting state stands_for (r ∷ []) calls out)
    s only (λ (stops, none). (r, refl, none, stops)) (λ (stops, none). (r, refl, none, stops)) (λ (stops, none). (r, refl, none, stops))
