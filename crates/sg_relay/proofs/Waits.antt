-- How a relay's turns and waits go on.
use Rattle.std.proofs.Common.{◌≡◌, ◌⊎◌, ◌<◌, ◌≤◌, ◌+◌, ℕ, true, false, List, [], ◌∷◌, ◌++◌, length, max, Result, Ok, Err, refl, sym, ap, ap₂, ◌∙◌, subst, append_assoc, length-append, inl, inr, arith, nat_le, if◌then◌else◌, append-nil}
use Rattle.sg_edge.specs.Links as links
use Rattle.sg_relay.proofs.Common.{Act, Acting, AreDue, AreGood, AreHandled, AreInOrder, AtFailedReceive, Clock, Failing, ForReading, ForReceive, GoInOrder, IsDone}
use Rattle.sg_relay.proofs.Common.{IsGood, IsOfOutcomes, IsOfSignals, IsOfTurns, IsReceived, IsTurn, IsTurnCut, IsTurnInOrder, IsTurnUnreceived, IsWaitCut}
use Rattle.sg_relay.proofs.Common.{IsWaitInOrder, IsWaited, IsWaiting, Later, Link, LinkCall, NoMemory, Noise, Nothing, Received, Status, StopsWith, Weaves}
use Rattle.sg_relay.proofs.Common.{Woven, Write, arrivals_of, cond-false, cond-true, le-leb, lt-leb, moment_of, receipt_in, receipts_in, stopped, ticks_of}
use Rattle.sg_relay.proofs.Common.{turned, waited, with_deeds}
use Rattle.sg_relay.proofs.Deeds.{AreGood-append, done_more, done_none, flat_append, stops_after}
use Rattle.sg_relay.proofs.Order.{due_as, due_more, due_none, order_as, order_more, order_none}
use Rattle.sg_relay.proofs.Weavings.{with_deeds_again}

-- what holds of each status of outcomes holds of one that is such
pub of_outcomes : (P : Status → Type 0) (s : Status) → IsOfOutcomes s → P Write → P Link → P NoMemory → P s
of_outcomes P s (inl is) write link memory = subst P (sym is) write
of_outcomes P s (inr (inl is)) write link memory = subst P (sym is) link
of_outcomes P s (inr (inr is)) write link memory = subst P (sym is) memory

pub of_turns : (P : Status → Type 0) (s : Status) → IsOfTurns s → P Clock → P Write → P Link → P NoMemory → P s
of_turns P s (inl is) clock write link memory = subst P (sym is) clock
of_turns P s (inr is) clock write link memory = of_outcomes P s is write link memory

pub of_signals : (P : Status → Type 0) (s : Status) → IsOfSignals s → P Noise → P Write → P Link → P NoMemory → P s
of_signals P s (inl is) noise write link memory = subst P (sym is) noise
of_signals P s (inr is) noise write link memory = of_outcomes P s is write link memory

-- ---- a receive

-- a receive that gives nothing to handle
received_none : (x : Received) → IsDone [] (links.Receive x ∷ []) []
received_none x = record { done = []; of_acts = refl; asked = refl; sent = refl; written = refl }

-- nothing is to be done for no deeds
pub done_nothing : {S D : Type 0} (acting : Acting S D) → GoInOrder acting → (state : S) (calls : List LinkCall) (out : List ℕ) → IsDone [] calls out → IsDone (acting.acts state []) calls out
done_nothing acting law state calls out done = subst (λ (os : List Act). IsDone os calls out) (sym (law.none_done state)) done

pub handled_nothing : {S D : Type 0} (acting : Acting S D) → GoInOrder acting → (state : S) (stands_for : S → Type 0) → stands_for state → AreHandled {T = Unit {0}} (Ok tt) acting state [] stands_for [] []
handled_nothing acting law state stands_for stands = (done_nothing acting law state [] [] done_none, tt, refl, subst stands_for (sym (law.none_after state)) stands)

-- nothing came
pub received_nothing : {L S D : Type 0} (w : Weaves L D) (acting : Acting S D) → GoInOrder acting → (pad : List ℕ) (state : S) (stands_for : S → Type 0) → stands_for state
    → IsReceived (Ok pad) w acting state stands_for Nothing (links.Receive Nothing ∷ []) []
received_nothing w acting law pad state stands_for stands = (
  refl,
  done_nothing acting law state (links.Receive Nothing ∷ []) [] (received_none Nothing),
  (tt, tt),
  subst stands_for (sym (law.none_after state)) stands,
)

module _ {L S D : Type 0} (w : Weaves L D) (acting : Acting S D) where
  -- the datagram that came is handled, whole or in part
  pub received_more : {T : Type 0} (r : Result T Status) (state : S) (stands_for : S → Type 0) (x : Received) (calls : List LinkCall) (out : List ℕ) → IsGood (links.Receive x)
      → AreHandled r acting state (arrivals_of w x) stands_for calls out → IsReceived r w acting state stands_for x (links.Receive x ∷ calls) out
  received_more (Ok u) state stands_for x calls out good handled = (
    ap (λ l. x ∷ l) handled.2,
    done_more [] (acting.acts state (arrivals_of w x)) (links.Receive x ∷ []) calls [] out (received_none x) handled.0,
    (good, handled.1),
    handled.3,
  )
  received_more (Err s) state stands_for x calls out good handled = inr (
    ap (λ l. x ∷ l) handled.1,
    stops_after s [] (acting.acts state (arrivals_of w x)) (links.Receive x ∷ []) calls [] out (received_none x) (good, tt) handled.0,
  )

  -- ---- a turn

  pub cut_turn : (s : Status) (state : S) (top top' : ℕ) (stands_for : S → Type 0) (readings : List ℕ) (calls : List LinkCall) (out : List ℕ)
      → IsOfOutcomes s → IsTurnCut s w acting state top readings calls out → IsTurn (Err s) w acting state top top' stands_for readings calls out
  cut_turn s state top top' stands_for readings calls out only =
      of_outcomes (λ (x : Status). IsTurnCut x w acting state top readings calls out → IsTurn (Err x) w acting state top top' stands_for readings calls out) s only (λ cut. cut) (λ cut. inr cut) (λ cut. cut)

-- ---- a wait

-- the wait goes on after these
abbrev pub GoesOn : {L D : Type 0} → Weaves L D → ℕ → ℕ → List ℕ → List Received → List D → ℕ → Type 0
GoesOn {L} {D} w until top readings receipts es top' =
    (later : Later D) (rs : List ℕ) (xs : List Received) (draws : List ℕ) → waited w until later top (readings ++ rs) (receipts ++ xs) draws ≡ with_deeds es (waited w until later top' rs xs draws)

pub goes_none : {L D : Type 0} (w : Weaves L D) (until top : ℕ) → GoesOn w until top [] [] [] top
goes_none w until top = λ later rs xs draws. refl

pub wait_order_none : {L S D : Type 0} (w : Weaves L D) (acting : Acting S D) (until : ℕ) (state : S) (top : ℕ) → IsWaitInOrder w acting until state top [] []
wait_order_none w acting until state top = λ later rs draws. (
  order_none (λ xs. acting.acts state (waited w until later top rs xs draws).deeds) [] refl,
  due_none (λ xs. (waited w until later top rs xs draws).stop) [] refl,
)

module _ {L S D : Type 0} (w : Weaves L D) (acting : Acting S D) (law : GoInOrder acting) where
  -- a turn that was cut in its receive
  pub cut_received : (T : Type 0) (s : Status) (state : S) (top top' r : ℕ) (x : Received) (stands_for stands_for' : S → Type 0) (a b : List LinkCall) (o p : List ℕ)
      → IsOfOutcomes s → AreHandled {T = Unit {0}} (Ok tt) acting state (ticks_of w top r) stands_for a o → (let q : Result T Status = Err s in IsReceived q w acting (acting.after state (ticks_of w top r)) stands_for' x b p)
      → IsTurn (Err s) w acting state top top' stands_for' (r ∷ []) (a ++ b) (o ++ p)
  cut_received T s state top top' r x stands_for stands_for' a b o p only ticked (inl (is, failed, unwritten)) =
      subst (λ (m : Status). IsTurn (Err m) w acting state top top' stands_for' (r ∷ []) (a ++ b) (o ++ p)) (sym is)
      (inl (
        r,
        refl,
        (
          a,
          ap (λ (l : List LinkCall). a ++ l) failed,
          (ticked.2, subst (λ (l : List ℕ). IsDone (acting.acts state (ticks_of w top r)) a l) (sym (ap (λ (l : List ℕ). o ++ l) unwritten ∙ append-nil o)) ticked.0, ticked.1),
        ),
      ))
  cut_received T s state top top' r x stands_for stands_for' a b o p only ticked (inr (come, stops)) = cut_turn w acting s state top top' stands_for' (r ∷ []) (a ++ b) (o ++ p) only (
    r,
    x ∷ [],
    refl,
    flat_append receipt_in a b ∙ ap₂ (λ (l m : List Received). l ++ m) ticked.2 come,
    omega arith,
    subst (λ (os : List Act). StopsWith s os (a ++ b) (o ++ p)) (sym (law.acts state (ticks_of w top r) (arrivals_of w x)))
        (stops_after s (acting.acts state (ticks_of w top r)) (acting.acts (acting.after state (ticks_of w top r)) (arrivals_of w x)) a b o p ticked.0 ticked.1 stops),
  )

  -- a whole turn
  pub turn_done : (pad : List ℕ) (state : S) (top top' r : ℕ) (x : Received) (stands_for stands_for' : S → Type 0) (a b : List LinkCall) (o p : List ℕ)
      → AreHandled {T = Unit {0}} (Ok tt) acting state (ticks_of w top r) stands_for a o → IsReceived (Ok pad) w acting (acting.after state (ticks_of w top r)) stands_for' x b p → top' ≡ max top (moment_of r)
      → IsTurn (Ok (moment_of r, pad)) w acting state top top' stands_for' (r ∷ []) (a ++ b) (o ++ p)
  turn_done pad state top top' r x stands_for stands_for' a b o p ticked received is = (
    r,
    x,
    refl,
    flat_append receipt_in a b ∙ ap₂ (λ (l m : List Received). l ++ m) ticked.2 received.0,
    refl,
    is,
    subst (λ (os : List Act). IsDone os (a ++ b) (o ++ p)) (sym (law.acts state (ticks_of w top r) (arrivals_of w x)))
        (done_more (acting.acts state (ticks_of w top r)) (acting.acts (acting.after state (ticks_of w top r)) (arrivals_of w x)) a b o p ticked.0 received.1),
    AreGood-append a b ticked.1 received.2,
    subst stands_for' (sym (law.after state (ticks_of w top r) (arrivals_of w x))) received.3,
  )

  module _ (until top : ℕ) (readings : List ℕ) (receipts : List Received) (es : List D) (top' : ℕ) (goes : GoesOn w until top readings receipts es top') where
    -- a whole turn, whatever follows
    whole_turn : (r : ℕ) (x : Received) (later : Later D) (rs : List ℕ) (xs : List Received) (draws : List ℕ)
        → waited w until later top ((readings ++ r ∷ []) ++ rs) ((receipts ++ x ∷ []) ++ xs) draws ≡ with_deeds es (waited w until later top' (r ∷ rs) (x ∷ xs) draws)
    whole_turn r x later rs xs draws =
        ap₂ (λ (l : List ℕ) (m : List Received). waited w until later top l m draws) (append_assoc readings (r ∷ []) rs) (append_assoc receipts (x ∷ []) xs) ∙ goes later (r ∷ rs) (x ∷ xs) draws

    goes_turn : (r : ℕ) (x : Received) → nat_le until (moment_of r) ≡ false
        → GoesOn w until top (readings ++ r ∷ []) (receipts ++ x ∷ []) (es ++ (ticks_of w top' r ++ arrivals_of w x)) (max top' (moment_of r))
    goes_turn r x early = λ later rs xs draws.
        whole_turn r x later rs xs draws ∙ ap (λ c. with_deeds es (with_deeds (ticks_of w top' r ++ arrivals_of w x) c)) (cond-false _ _ _ early)
        ∙ with_deeds_again es (ticks_of w top' r ++ arrivals_of w x) (waited w until later (max top' (moment_of r)) rs xs draws)

    over_turn : (r : ℕ) (x : Received) → nat_le until (moment_of r) ≡ true → (later : Later D) (rs : List ℕ) (xs : List Received) (draws : List ℕ)
        → waited w until later top ((readings ++ r ∷ []) ++ rs) ((receipts ++ x ∷ []) ++ xs) draws
        ≡ with_deeds (es ++ (ticks_of w top' r ++ arrivals_of w x)) (later (max top' (moment_of r)) (record { readings = rs; receipts = xs; draws = draws }))
    over_turn r x over later rs xs draws =
        whole_turn r x later rs xs draws ∙ ap (λ c. with_deeds es (with_deeds (ticks_of w top' r ++ arrivals_of w x) c)) (cond-true _ _ _ over)
        ∙ with_deeds_again es (ticks_of w top' r ++ arrivals_of w x) (later (max top' (moment_of r)) (record { readings = rs; receipts = xs; draws = draws }))

    at_reading : (later : Later D) (draws : List ℕ) → waited w until later top readings receipts draws ≡ with_deeds es (stopped ForReading (record { readings = []; receipts = []; draws = draws }))
    at_reading later draws = ap₂ (λ (l : List ℕ) (m : List Received). waited w until later top l m draws) (sym (append-nil readings)) (sym (append-nil receipts)) ∙ goes later [] [] draws

    receive_next : (r : ℕ) (later : Later D) (draws : List ℕ)
        → waited w until later top (readings ++ r ∷ []) receipts draws ≡ with_deeds (es ++ ticks_of w top' r) (stopped ForReceive (record { readings = []; receipts = []; draws = draws }))
    receive_next r later draws =
        ap (λ (m : List Received). waited w until later top (readings ++ r ∷ []) m draws) (sym (append-nil receipts)) ∙ goes later (r ∷ []) [] draws
        ∙ with_deeds_again es (ticks_of w top' r) (stopped ForReceive (record { readings = []; receipts = []; draws = draws }))

    in_turn : (r : ℕ) (xs : List Received) → length xs ≤ 1 → (later : Later D) (draws : List ℕ)
        → (rest : Woven D) × (waited w until later top (readings ++ r ∷ []) (receipts ++ xs) draws ≡ with_deeds (es ++ turned w top' r xs) rest)
    in_turn r [] one later draws = (
      stopped ForReceive (record { readings = []; receipts = []; draws = draws }),
      goes later (r ∷ []) [] draws ∙ with_deeds_again es (ticks_of w top' r) (stopped ForReceive (record { readings = []; receipts = []; draws = draws })),
    )
    in_turn r (x ∷ []) one later draws =
        let rest : Woven D = (if nat_le until (moment_of r) then later (max top' (moment_of r)) (record { readings = []; receipts = []; draws = draws }) else waited w until later (max top' (moment_of r)) [] [] draws) in
        (rest, goes later (r ∷ []) (x ∷ []) draws ∙ with_deeds_again es (ticks_of w top' r ++ arrivals_of w x) rest)
    in_turn r (x ∷ y ∷ xs) one later draws = absurd (omega (arith, one))

    module _ (state : S) (calls : List LinkCall) (out : List ℕ) (is : receipts_in calls ≡ receipts) (done : IsDone (acting.acts state es) calls out) (good : AreGood calls)
        (paced : length readings ≡ length receipts) (turns turns' : ℕ) (counted : length readings + turns' ≡ turns) where
      pub reading_next : IsWaiting ForReading w acting until state top readings calls out × (length readings ≡ length (receipts_in calls))
      reading_next = (
        record {
          deeds = es;
          stops = λ later draws. ap (λ (m : List Received). waited w until later top readings m draws) is ∙ at_reading later draws;
          done = done;
          good = good;
        },
        paced ∙ ap length (sym is),
      )

      module _ (readings' : List ℕ) (calls' : List LinkCall) (out' : List ℕ) where
        receipts_are : receipts_in (calls ++ calls') ≡ receipts ++ receipts_in calls'
        receipts_are = flat_append receipt_in calls calls' ∙ ap (λ (l : List Received). l ++ receipts_in calls') is

        pace : (xs : List Received) → length xs ≤ 1 → (length (readings ++ readings') ≡ length readings + 1) → length (receipts ++ xs) ≡ length receipts + length xs
            → (length (readings ++ readings') ≡ length (receipts ++ xs)) ⊎ (length (readings ++ readings') ≡ length (receipts ++ xs) + 1)
        pace [] one size more = inr (omega (arith, paced, size, more))
        pace (x ∷ []) one size more = inl (omega (arith, paced, size, more))
        pace (x ∷ y ∷ xs) one size more = absurd (omega (arith, one))

        cut_so : (s : Status) → 0 < turns' → IsTurnCut s w acting (acting.after state es) top' readings' calls' out'
            → IsWaitCut s w acting until state top (readings ++ readings') (calls ++ calls') (out ++ out') × (length (readings ++ readings') ≤ turns)
        cut_so s left (r, xs, one, come, few, stops) =
            let all : receipts_in (calls ++ calls') ≡ receipts ++ xs = receipts_are ∙ ap (λ (l : List Received). receipts ++ l) come in
            let size : length (readings ++ readings') ≡ length readings + 1 = length-append readings readings' ∙ ap (λ (l : List ℕ). length readings + length l) one in (
              (
                es ++ turned w top' r xs,
                (λ later draws.
                    let at = in_turn r xs few later draws in
                    (at.0, ap₂ (λ (l : List ℕ) (m : List Received). waited w until later top l m draws) (ap (λ (l : List ℕ). readings ++ l) one) all ∙ at.1)),
                subst (λ (os : List Act). StopsWith s os (calls ++ calls') (out ++ out')) (sym (law.acts state es (turned w top' r xs)))
                    (stops_after s (acting.acts state es) (acting.acts (acting.after state es) (turned w top' r xs)) calls calls' out out' done good stops),
                subst (λ (m : List Received). (length (readings ++ readings') ≡ length m) ⊎ (length (readings ++ readings') ≡ length m + 1)) (sym all) (pace xs few size (length-append receipts xs)),
              ),
              omega (arith, size, counted, left),
            )

        -- the receive of the turn failed
        unreceived : 0 < turns' → IsTurnUnreceived w acting (acting.after state es) top' readings' calls' out'
            → (AtFailedReceive (λ before. IsWaiting ForReceive w acting until state top (readings ++ readings') before (out ++ out')) (calls ++ calls') × (length (readings ++ readings') ≡ length (receipts_in (calls ++ calls'))))
            × (length (readings ++ readings') ≤ turns)
        unreceived left (r, one, (before, failed, (none, done', good'))) =
            let none_more : receipts_in (calls ++ before) ≡ receipts = flat_append receipt_in calls before ∙ ap₂ (λ (l m : List Received). l ++ m) is none ∙ append-nil receipts in
            let last : receipts_in calls' ≡ Failing ∷ [] = ap receipts_in failed ∙ flat_append receipt_in before (links.Receive Failing ∷ []) ∙ ap (λ (l : List Received). l ++ (Failing ∷ [])) none in
            let size : length (readings ++ readings') ≡ length readings + 1 = length-append readings readings' ∙ ap (λ (l : List ℕ). length readings + length l) one in (
              (
                (
                  calls ++ before,
                  ap (λ (l : List LinkCall). calls ++ l) failed ∙ sym (append_assoc calls before (links.Receive Failing ∷ [])),
                  record {
                    deeds = es ++ ticks_of w top' r;
                    stops = λ later draws.
                        ap₂ (λ (l : List ℕ) (m : List Received). waited w until later top l m draws) (ap (λ (l : List ℕ). readings ++ l) one) none_more ∙ receive_next r later draws;
                    done = subst (λ (os : List Act). IsDone os (calls ++ before) (out ++ out')) (sym (law.acts state es (ticks_of w top' r)))
                        (done_more (acting.acts state es) (acting.acts (acting.after state es) (ticks_of w top' r)) calls before out out' done done');
                    good = AreGood-append calls before good good';
                  },
                ),
                omega (arith, size, paced, ap length receipts_are, length-append receipts (receipts_in calls'), ap length last),
              ),
              omega (arith, size, counted, left),
            )

        cut_link : 0 < turns' → IsTurnUnreceived w acting (acting.after state es) top' readings' calls' out' ⊎ IsTurnCut Link w acting (acting.after state es) top' readings' calls' out'
            → ((AtFailedReceive (λ before. IsWaiting ForReceive w acting until state top (readings ++ readings') before (out ++ out')) (calls ++ calls') × (length (readings ++ readings') ≡ length (receipts_in (calls ++ calls'))))
            ⊎ IsWaitCut Link w acting until state top (readings ++ readings') (calls ++ calls') (out ++ out')) × (length (readings ++ readings') ≤ turns)
        cut_link left (inl failed) = let at = unreceived left failed in (inl at.0, at.1)
        cut_link left (inr cut) = let at = cut_so Link left cut in (inr at.0, at.1)

        -- there was no reading
        unread : 0 < turns' → (readings' ≡ []) × (calls' ≡ []) × (out' ≡ [])
            → IsWaiting ForReading w acting until state top (readings ++ readings') (calls ++ calls') (out ++ out') × (length (readings ++ readings') ≡ length (receipts_in (calls ++ calls')))
            × (length (readings ++ readings') < turns)
        unread left (none, uncalled, unwritten) =
            let same : (readings ++ readings' ≡ readings) = ap (λ (l : List ℕ). readings ++ l) none ∙ append-nil readings in
            let uncalled_more : (calls ++ calls' ≡ calls) = ap (λ (l : List LinkCall). calls ++ l) uncalled ∙ append-nil calls in (
              subst (λ (l : List ℕ). IsWaiting ForReading w acting until state top l (calls ++ calls') (out ++ out')) (sym same)
                  (subst (λ (l : List LinkCall). IsWaiting ForReading w acting until state top readings l (out ++ out')) (sym uncalled_more)
                  (subst (λ (l : List ℕ). IsWaiting ForReading w acting until state top readings calls l) (sym (append-nil out) ∙ ap (λ (l : List ℕ). out ++ l) (sym unwritten)) reading_next.0)),
              ap length same ∙ reading_next.1 ∙ ap (λ (l : List LinkCall). length (receipts_in l)) (sym uncalled_more),
              omega (arith, counted, left, ap length same),
            )

        -- a turn that was cut, whose receive failed, or for which there was no reading
        pub cut_wait : (s : Status) (stands_for stands_for' : S → Type 0) (top2 turns2 : ℕ) → IsOfTurns s → 0 < turns' → IsTurn (Err s) w acting (acting.after state es) top' top2 stands_for readings' calls' out'
            → IsWaited (Err s) w acting until state top top2 turns turns2 stands_for' (readings ++ readings') (calls ++ calls') (out ++ out')
        cut_wait s stands_for stands_for' top2 turns2 only left = of_turns
            (λ (x : Status). IsTurn (Err x) w acting (acting.after state es) top' top2 stands_for readings' calls' out' → IsWaited (Err x) w acting until state top top2 turns turns2 stands_for' (readings ++ readings') (calls ++ calls') (out ++ out'))
            s only (unread left) (cut_so Write left) (cut_link left) (cut_so NoMemory left)

        -- a whole turn
        all_done : (top2 moment : ℕ) (pad : List ℕ) (stands_for : S → Type 0) (turned : IsTurn (Ok (moment, pad)) w acting (acting.after state es) top' top2 stands_for readings' calls' out')
            → let deeds : List D = es ++ (ticks_of w top' turned.0 ++ arrivals_of w turned.1) in IsDone (acting.acts state deeds) (calls ++ calls') (out ++ out') × AreGood (calls ++ calls') × stands_for (acting.after state deeds)
        all_done top2 moment pad stands_for (r, x, one, come, is, at, done', good', stands') = (
          subst (λ (os : List Act). IsDone os (calls ++ calls') (out ++ out')) (sym (law.acts state es (ticks_of w top' r ++ arrivals_of w x)))
              (done_more (acting.acts state es) (acting.acts (acting.after state es) (ticks_of w top' r ++ arrivals_of w x)) calls calls' out out' done done'),
          AreGood-append calls calls' good good',
          subst stands_for (sym (law.after state es (ticks_of w top' r ++ arrivals_of w x))) stands',
        )

        -- the turn's calls by what follows the wait so far
        rest_order : IsTurnInOrder w acting (acting.after state es) top' readings' calls' → (later : Later D) (rs draws : List ℕ)
            → AreInOrder (λ xs. acting.acts (acting.after state es) (waited w until later top' (readings' ++ rs) xs draws).deeds) calls'
        rest_order (inl none) later rs draws = order_none (λ xs. acting.acts (acting.after state es) (waited w until later top' (readings' ++ rs) xs draws).deeds) calls' (ap receipts_in none)
        rest_order (inr (r, one, few, order)) later rs draws =
            order_as (λ xs. acting.acts (acting.after state es) (waited w until later top' (readings' ++ rs) xs draws).deeds) (λ xs. acting.acts (acting.after state es) (turned w top' r xs)) calls' few
            (ap (λ (l : List ℕ). acting.acts (acting.after state es) (waited w until later top' (l ++ rs) [] draws).deeds) one ∙ ap (acting.acts (acting.after state es)) (append-nil (ticks_of w top' r)))
            order

        -- its receive was due
        rest_due : IsTurnInOrder w acting (acting.after state es) top' readings' calls' → (later : Later D) (rs draws : List ℕ) → AreDue (λ xs. (waited w until later top' (readings' ++ rs) xs draws).stop) calls'
        rest_due (inl none) later rs draws = due_none (λ xs. (waited w until later top' (readings' ++ rs) xs draws).stop) calls' (ap receipts_in none)
        rest_due (inr (r, one, few, order)) later rs draws =
            due_as (λ xs. (waited w until later top' (readings' ++ rs) xs draws).stop) calls' few (ap (λ (l : List ℕ). (waited w until later top' (l ++ rs) [] draws).stop) one)

        -- one turn more is in order
        pub wait_order : IsWaitInOrder w acting until state top readings calls → IsTurnInOrder w acting (acting.after state es) top' readings' calls' → IsWaitInOrder w acting until state top (readings ++ readings') (calls ++ calls')
        wait_order before turn later rs draws =
            let go : (xs : List Received) → waited w until later top (readings ++ (readings' ++ rs)) (receipts_in calls ++ xs) draws ≡ with_deeds es (waited w until later top' (readings' ++ rs) xs draws) =
            λ xs. ap (λ (m : List Received). waited w until later top (readings ++ (readings' ++ rs)) (m ++ xs) draws) is ∙ goes later (readings' ++ rs) xs draws in (
              subst (λ (l : List ℕ). AreInOrder (λ xs. acting.acts state (waited w until later top l xs draws).deeds) (calls ++ calls')) (sym (append_assoc readings readings' rs))
                  (order_more (λ xs. acting.acts state (waited w until later top (readings ++ (readings' ++ rs)) xs draws).deeds)
                  (λ xs. acting.acts (acting.after state es) (waited w until later top' (readings' ++ rs) xs draws).deeds) (acting.acts state es) calls calls'
                  (λ xs. ap (λ (c : Woven D). acting.acts state c.deeds) (go xs) ∙ law.acts state es (waited w until later top' (readings' ++ rs) xs draws).deeds)
                  done.asked (before later (readings' ++ rs) draws).0 (rest_order turn later rs draws)),
              subst (λ (l : List ℕ). AreDue (λ xs. (waited w until later top l xs draws).stop) (calls ++ calls')) (sym (append_assoc readings readings' rs))
                  (due_more (λ xs. (waited w until later top (readings ++ (readings' ++ rs)) xs draws).stop) (λ xs. (waited w until later top' (readings' ++ rs) xs draws).stop) calls calls'
                  (λ xs. ap (λ (c : Woven D). c.stop) (go xs)) (before later (readings' ++ rs) draws).1 (rest_due turn later rs draws)),
            )

        -- the last turn
        pub over_wait : (moment : ℕ) (pad : List ℕ) (top2 turns2 : ℕ) (stands_for : S → Type 0) → until ≤ moment → turns2 + 1 ≡ turns' → IsTurn (Ok (moment, pad)) w acting (acting.after state es) top' top2 stands_for readings' calls' out'
            → IsWaited (Ok pad) w acting until state top top2 turns turns2 stands_for (readings ++ readings') (calls ++ calls') (out ++ out')
        over_wait moment pad top2 turns2 stands_for late one_less (r, x, one, come, is, at, done', good', stands') =
            let all : receipts_in (calls ++ calls') ≡ receipts ++ x ∷ [] = receipts_are ∙ ap (λ (l : List Received). receipts ++ l) come in
            let over : nat_le until (moment_of r) ≡ true = le-leb until (moment_of r) (omega (arith, late, is)) in
            let top_is : top2 ≡ max top' (moment_of r) = at ∙ ap (λ (m : ℕ). max top' m) is in
            let parts = all_done top2 moment pad stands_for (r, x, one, come, is, at, done', good', stands') in (
              es ++ (ticks_of w top' r ++ arrivals_of w x),
              (λ later rs xs draws.
                  ap₂ (λ (l : List ℕ) (m : List Received). waited w until later top (l ++ rs) (m ++ xs) draws) (ap (λ (l : List ℕ). readings ++ l) one) all
                  ∙ over_turn r x over later rs xs draws
                  ∙ ap (λ (t : ℕ). with_deeds (es ++ (ticks_of w top' r ++ arrivals_of w x)) (later t (record { readings = rs; receipts = xs; draws = draws }))) (sym top_is)),
              parts.0,
              parts.1,
              parts.2,
              omega (arith, paced, length-append readings readings', ap length one, ap length all, length-append receipts (x ∷ [])),
              omega (arith, counted, one_less, length-append readings readings', ap length one),
            )

        -- a turn that isn't the last
        pub wait_more : (moment : ℕ) (pad : List ℕ) (top2 turns2 : ℕ) (stands_for : S → Type 0) → moment < until → turns2 + 1 ≡ turns' → IsTurn (Ok (moment, pad)) w acting (acting.after state es) top' top2 stands_for readings' calls' out'
            → (deeds : List D) × GoesOn w until top (readings ++ readings') (receipts_in (calls ++ calls')) deeds top2
            × IsDone (acting.acts state deeds) (calls ++ calls') (out ++ out') × AreGood (calls ++ calls') × stands_for (acting.after state deeds)
            × (length (readings ++ readings') ≡ length (receipts_in (calls ++ calls'))) × (length (readings ++ readings') + turns2 ≡ turns)
        wait_more moment pad top2 turns2 stands_for early one_less (r, x, one, come, is, at, done', good', stands') =
            let all : receipts_in (calls ++ calls') ≡ receipts ++ x ∷ [] = receipts_are ∙ ap (λ (l : List Received). receipts ++ l) come in
            let under : nat_le until (moment_of r) ≡ false = lt-leb until (moment_of r) (omega (arith, early, is)) in
            let top_is : top2 ≡ max top' (moment_of r) = at ∙ ap (λ (m : ℕ). max top' m) is in
            let parts = all_done top2 moment pad stands_for (r, x, one, come, is, at, done', good', stands') in
            let deeds : List D = es ++ (ticks_of w top' r ++ arrivals_of w x) in (
              deeds,
              subst (λ (t : ℕ). GoesOn w until top (readings ++ readings') (receipts_in (calls ++ calls')) deeds t) (sym top_is)
                  (subst (λ (m : List Received). GoesOn w until top (readings ++ readings') m deeds (max top' (moment_of r))) (sym all)
                  (subst (λ (l : List ℕ). GoesOn w until top l (receipts ++ x ∷ []) deeds (max top' (moment_of r))) (ap (λ (l : List ℕ). readings ++ l) (sym one)) (goes_turn r x under))),
              parts.0,
              parts.1,
              parts.2,
              omega (arith, paced, length-append readings readings', ap length one, ap length all, length-append receipts (x ∷ [])),
              omega (arith, counted, one_less, length-append readings readings', ap length one),
            )
