-- How a relay goes on, line by line.
use Rattle.std.proofs.Common.{◌≡◌, ◌⊎◌, ◌<◌, ◌≤◌, ◌+◌, ◌^◌, ℕ, List, [], ◌∷◌, ◌++◌, length, Option, Result, Ok, Err, refl, sym, ap, ◌∙◌, subst, append_assoc, length-append, inl, inr, arith, append-nil}
use Rattle.sg_trace.specs.Trace.{AtEnd as BehindAll, AtFault, ForDraw, ForReading, ForReceive, Outside, Stop, moment_of}
use Rattle.sg_relay.proofs.Common.{Act, Acting, Added, AreDue, AreGood, AreInOrder, ArePaced, ArePairs, AtEnd, AtFailedReceive, Called, Clock, Done, Failing}
use Rattle.sg_relay.proofs.Common.{GoInOrder, IsBegun, IsBroken, IsDone, IsFaultBy, IsLineCut, IsLineInOrder, IsNextBy, IsOfLines, IsOfTurns, IsPart}
use Rattle.sg_relay.proofs.Common.{IsReadBy, IsRelay, IsSaid, IsStopped, IsWholeRelay, Later, Link, LinkCall, NoMemory, Noise, Passed, Read, Reading, Receive}
use Rattle.sg_relay.proofs.Common.{Received, RelayEnds, RelayTellings, Script, ScriptFault, Status, StopsWith, Tally, TookIn, TurnsSpent, Weaves, Woven}
use Rattle.sg_relay.proofs.Common.{Write, Wrote, added_more, called_more, lines_of, nothing, receipt_in, receipts_in, said, stopped, taken, taking, took_more}
use Rattle.sg_relay.proofs.Common.{with_deeds, woven, woven_from, woven_of, wrote_more}
use Rattle.sg_relay.proofs.Deeds.{AreGood-append, done_more, done_none, flat_append, part_longer, part_of, stops_after, stops_longer}
use Rattle.sg_relay.proofs.Order.{due_more, due_none, order_more, order_none}
use Rattle.sg_relay.proofs.Waits.{done_nothing, of_turns}
use Rattle.sg_relay.proofs.Weavings.{reads_on, stops_at, with_deeds_again}

-- what is done for the deeds of a weaving, by its receives
abbrev pub told_by : {L S D : Type 0} → Weaves L D → Acting S D → S → List ℕ → List ℕ → List ℕ → List Received → List Act
told_by w acting state octets readings draws receipts = acting.acts state (woven w octets readings receipts draws).deeds

-- where a weaving stops, by its receives
abbrev pub stops_by : {L D : Type 0} → Weaves L D → List ℕ → List ℕ → List ℕ → List Received → Stop
stops_by w octets readings draws receipts = (woven w octets readings receipts draws).stop

-- The relay has taken whole lines, whose deeds it has handled, and what waits behind them.
pub record IsRelaying {L S D : Type 0} (w : Weaves L D) (acting : Acting S D) (state : S) (old now : RelayTellings) (turns began : ℕ) (p : Passed) (at : Reading) (ds : List D) (top left : ℕ) : Type 0 where
  pub took : TookIn old.left now.left (p.octets ++ at.waits)
  pub wrote : Wrote old.written now.written p.out
  pub called : Called old.calls now.calls p.calls
  pub read : Added old.readings now.readings p.readings
  pub drew : Added old.draws now.draws p.draws
  pub goes : (rest : List ℕ) (o : Outside) → woven w (p.octets ++ rest) (p.readings ++ o.readings) (receipts_in p.calls ++ o.receipts) (p.draws ++ o.draws)
      ≡ with_deeds ds (woven_from w began at.version at.number at.offset (lines_of rest) top o)
  pub done : IsDone (acting.acts state ds) p.calls p.out
  pub good : AreGood p.calls
  pub paced : length p.readings ≡ length (receipts_in p.calls) + 1
  pub counted : length p.readings + left ≡ turns + 1
  pub size : length p.octets ≡ at.offset
  pub room : at.offset + length at.waits + at.budget ≡ 2 ^ 30 + 1
  pub within : at.offset ≤ 2 ^ 30
  pub in_order : (rest : List ℕ) (o : Outside) → AreInOrder (told_by w acting state (p.octets ++ rest) (p.readings ++ o.readings) (p.draws ++ o.draws)) p.calls
  pub due : (rest : List ℕ) (o : Outside) → AreDue (stops_by w (p.octets ++ rest) (p.readings ++ o.readings) (p.draws ++ o.draws)) p.calls

pace_so : (readings : List ℕ) (receipts : List Received) → (length readings ≡ length receipts + 1) ⊎ (length readings ≡ (length receipts + 1) + 1) → ArePaced readings receipts
pace_so [] receipts (inl same) = absurd (omega (arith, same))
pace_so [] receipts (inr same) = absurd (omega (arith, same))
pace_so (r ∷ rs) receipts (inl same) = inl (omega (arith, same))
pace_so (r ∷ rs) receipts (inr same) = inr (omega (arith, same))

-- what holds of each status of a line holds of one that is such
of_lines : (P : Status → Type 0) (s : Status) → IsOfLines s → P Noise → P TurnsSpent → P Clock → P Write → P Link → P NoMemory → P s
of_lines P s (inl is) noise spent clock write link memory = subst P (sym is) noise
of_lines P s (inr (inl is)) noise spent clock write link memory = subst P (sym is) spent
of_lines P s (inr (inr is)) noise spent clock write link memory = of_turns P s is clock write link memory

-- nothing but the first reading and what it gives has passed
abbrev pub only_begun : List ℕ → List LinkCall → List ℕ → Passed
only_begun readings calls out = record { octets = []; out = out; calls = calls; readings = readings; draws = [] }

module _ {L S D : Type 0} (w : Weaves L D) (acting : Acting S D) (law : GoInOrder acting) (state : S) where
  -- a weaving whose deeds begin with some that were handled, in part or whole
  part_in : (p : Passed) (ds : List D) (rest : Woven D) → woven_of w p ≡ with_deeds ds rest → IsPart (acting.acts state ds) p.calls p.out → IsPart (acting.acts state (woven_of w p).deeds) p.calls p.out
  part_in p ds rest is part =
      subst (λ (c : Woven D). IsPart (acting.acts state c.deeds) p.calls p.out) (sym is)
      (subst (λ (os : List Act). IsPart os p.calls p.out) (sym (law.acts state ds rest.deeds))
      (part_longer (acting.acts state ds) (acting.acts (acting.after state ds) rest.deeds) p.calls p.out part))

  stops_in : (s : Status) (p : Passed) (ds : List D) (rest : Woven D) → woven_of w p ≡ with_deeds ds rest → StopsWith s (acting.acts state ds) p.calls p.out
      → StopsWith s (acting.acts state (woven_of w p).deeds) p.calls p.out
  stops_in s p ds rest is stops =
      subst (λ (c : Woven D). StopsWith s (acting.acts state c.deeds) p.calls p.out) (sym is)
      (subst (λ (os : List Act). StopsWith s os p.calls p.out) (sym (law.acts state ds rest.deeds))
      (stops_longer s (acting.acts state ds) (acting.acts (acting.after state ds) rest.deeds) p.calls p.out stops))

  whole_at : (p : Passed) (ds : List D) (stop : Stop) → woven_of w p ≡ with_deeds ds (stopped stop nothing) → IsDone (acting.acts state ds) p.calls p.out → AreGood p.calls → IsWholeRelay w (acting.acts state) p stop
  whole_at p ds stop is done good = record {
    stops = ap (λ (c : Woven D). c.stop) is;
    left = ap (λ (c : Woven D). c.left) is;
    done = subst (λ (os : List Act). IsDone os p.calls p.out)
        (sym (ap (λ (l : List D). acting.acts state l) (ap (λ (c : Woven D). c.deeds) is ∙ append-nil ds))) done;
    good = good;
  }

  module _ (old now : RelayTellings) (turns began : ℕ) (p : Passed) (at : Reading) (ds : List D) (top left : ℕ) (going : IsRelaying w acting state old now turns began p at ds top left)
      (left' : Tally) (got : List ℕ) (came : TookIn now.left left' got) where
    -- what has passed by then
    abbrev pub passed : Passed
    passed = record p { octets = p.octets ++ (at.waits ++ got) }

    took_all : TookIn old.left left' (p.octets ++ (at.waits ++ got))
    took_all = subst (TookIn old.left left') (append_assoc p.octets at.waits got) (took_more old.left now.left left' (p.octets ++ at.waits) got going.took came)

    bounded : (budget : ℕ) → length got + budget ≡ at.budget → length (p.octets ++ (at.waits ++ got)) ≤ 2 ^ 30 + 1
    bounded budget paid = omega (arith, going.size, going.room, paid, length-append p.octets (at.waits ++ got), length-append at.waits got)

    woven_is : woven_of w passed ≡ with_deeds ds (woven_from w began at.version at.number at.offset (lines_of (at.waits ++ got)) top nothing)
    woven_is = (λ i. woven w (p.octets ++ (at.waits ++ got)) (sym (append-nil p.readings) i) (sym (append-nil (receipts_in p.calls)) i) (sym (append-nil p.draws) i)) ∙ going.goes (at.waits ++ got) nothing

    -- nothing more was handled
    broken : IsBroken w (acting.acts state) passed
    broken = record { part = part_in passed ds _ woven_is (part_of (acting.acts state ds) p.calls p.out going.done); good = going.good }

    -- the run ends before a line was handled
    ended : (s : Status) (budget : ℕ) → length got + budget ≡ at.budget → RelayEnds w (acting.acts state) s turns passed left' → IsRelay w (acting.acts state) s turns old (record now { left = left' }) passed
    ended s budget paid ends = record {
      took = took_all;
      wrote = going.wrote;
      called = going.called;
      read = going.read;
      drew = going.drew;
      ends = ends;
      bound = bounded budget paid;
      most = omega (arith, going.counted);
      paced = pace_so p.readings (receipts_in p.calls) (inl going.paced);
      in_order = subst (λ (f : List Received → List Act). AreInOrder f p.calls)
          (λ i. told_by w acting state (p.octets ++ (at.waits ++ got)) (append-nil p.readings i) (append-nil p.draws i)) (going.in_order (at.waits ++ got) nothing);
      due = subst (λ (f : List Received → Stop). AreDue f p.calls) (λ i. stops_by w (p.octets ++ (at.waits ++ got)) (append-nil p.readings i) (append-nil p.draws i)) (going.due (at.waits ++ got) nothing);
    }

    -- at the end of the source
    pub at_end : (budget : ℕ) → length got + budget ≡ at.budget → at.waits ++ got ≡ [] → AtEnd left' ⊎ (2 ^ 30 < at.offset) → IsRelay w (acting.acts state) Done turns old (record now { left = left' }) passed
    at_end budget paid none (inr far) = absurd (let near = going.within in omega (arith, far, near))
    at_end budget paid none (inl end) = ended Done budget paid (
      whole_at passed ds BehindAll (woven_is ∙ ap (λ (l : List ℕ). with_deeds ds (woven_from w began at.version at.number at.offset (lines_of l) top nothing)) none) going.done going.good,
      end,
    )

    -- at a line with a fault, and whatever comes after it
    at_fault : (fault : ScriptFault) → IsFaultBy w.spelled at.version at.number at.offset (at.waits ++ got) fault left' → RelayEnds w (acting.acts state) (Script at.number fault) turns passed left'
    at_fault fault is = (
      whole_at passed ds (AtFault at.number fault) (woven_is ∙ ap (with_deeds ds) (stops_at w began at.version at.number at.offset (at.waits ++ got) fault top nothing is.first)) going.done going.good,
      is.ended,
      λ not_end more.
          let parts : (p.octets ++ (at.waits ++ got)) ++ more ≡ p.octets ++ ((at.waits ++ got) ++ more) = append_assoc p.octets (at.waits ++ got) more in
          (λ i. (woven w (parts i) (sym (append-nil p.readings) i) (sym (append-nil (receipts_in p.calls)) i) (sym (append-nil p.draws) i)).stop)
          ∙ ap (λ (c : Woven D). c.stop) (going.goes ((at.waits ++ got) ++ more) nothing)
          ∙ ap (λ (c : Woven D). c.stop) (stops_at w began at.version at.number at.offset ((at.waits ++ got) ++ more) fault top nothing (is.still not_end more)),
    )

    -- the next line isn't read
    pub at_error : (s : Status) (at' : Reading) → length got + at'.budget ≡ at.budget → (let r : Result (Option L) Status = Err s in IsNextBy w.spelled w.followed r at at' got left')
        → IsRelay w (acting.acts state) s turns old (record now { left = left' }) passed
    at_error (Script n f) at' paid (same, fault) = subst (λ (m : ℕ). IsRelay w (acting.acts state) (Script m f) turns old (record now { left = left' }) passed) (sym same) (ended (Script at.number f) at'.budget paid (at_fault f (subst (λ (m : ℕ). IsFaultBy w.spelled at.version m at.offset (at.waits ++ got) f left') same fault)))
    at_error Read at' paid next = ended Read at'.budget paid broken
    at_error NoMemory at' paid next = ended NoMemory at'.budget paid broken
    at_error other at' paid next = absurd next

    module _ (l : L) (at' : Reading) (paid : length got + at'.budget ≡ at.budget) (is : IsReadBy w.spelled w.followed l at at' got) (readings : List ℕ) (calls : List LinkCall) (draws out : List ℕ) where
      -- what follows the line
      abbrev later : Later D
      later = woven_from w began (w.followed at.version l) (at.number + 1) (at.offset + length is.line) (lines_of at'.waits)

      receipts_are : receipts_in (p.calls ++ calls) ≡ receipts_in p.calls ++ receipts_in calls
      receipts_are = flat_append receipt_in p.calls calls

      -- the weaving, up to what follows the line
      says : (more : List ℕ) (o : Outside) → woven w ((p.octets ++ is.line) ++ more) ((p.readings ++ readings) ++ o.readings) (receipts_in (p.calls ++ calls) ++ o.receipts) ((p.draws ++ draws) ++ o.draws)
          ≡ with_deeds ds (said w began l (woven_from w began (w.followed at.version l) (at.number + 1) (at.offset + length is.line) (lines_of more)) top (taking readings (receipts_in calls) draws o))
      says more o =
          let receipts : receipts_in (p.calls ++ calls) ++ o.receipts ≡ receipts_in p.calls ++ (receipts_in calls ++ o.receipts) =
          ap (λ (xs : List Received). xs ++ o.receipts) receipts_are ∙ append_assoc (receipts_in p.calls) (receipts_in calls) o.receipts in
          (λ i. woven w (append_assoc p.octets is.line more i) (append_assoc p.readings readings o.readings i) (receipts i) (append_assoc p.draws draws o.draws i))
          ∙ going.goes (is.line ++ more) (taking readings (receipts_in calls) draws o)
          ∙ ap (with_deeds ds) (reads_on w began at.version at.number at.offset is.line more l top (taking readings (receipts_in calls) draws o) is.whole is.is)

      -- what has passed with the line
      abbrev pub with_line : Passed
      with_line = record { octets = p.octets ++ (at.waits ++ got); out = p.out ++ out; calls = p.calls ++ calls; readings = p.readings ++ readings; draws = p.draws ++ draws }

      octets_are : p.octets ++ (at.waits ++ got) ≡ (p.octets ++ is.line) ++ at'.waits
      octets_are = ap (λ (l : List ℕ). p.octets ++ l) is.split ∙ sym (append_assoc p.octets is.line at'.waits)

      -- the weaving, where nothing more was taken
      says_all : woven_of w with_line ≡ with_deeds ds (said w began l later top (taken readings (receipts_in calls) draws))
      says_all =
          (λ i. woven w (octets_are i) (sym (append-nil (p.readings ++ readings)) i) (sym (append-nil (receipts_in (p.calls ++ calls))) i) (sym (append-nil (p.draws ++ draws)) i))
          ∙ says at'.waits nothing
          ∙ (λ i. with_deeds ds (said w began l later top (taken (append-nil readings i) (append-nil (receipts_in calls) i) (append-nil draws i))))

      -- the lines by then
      abbrev pub behind : Passed
      behind = record { octets = p.octets ++ is.line; out = p.out ++ out; calls = p.calls ++ calls; readings = p.readings ++ readings; draws = p.draws ++ draws }

      -- the calls by then are in order
      line_order : IsLineInOrder w acting began l (acting.after state ds) top readings calls draws → (more : List ℕ) (o : Outside)
          → AreInOrder (told_by w acting state ((p.octets ++ is.line) ++ more) ((p.readings ++ readings) ++ o.readings) ((p.draws ++ draws) ++ o.draws)) (p.calls ++ calls)
      line_order order more o =
          let next : Later D = woven_from w began (w.followed at.version l) (at.number + 1) (at.offset + length is.line) (lines_of more) in
          let after_it : List Received → Outside = λ xs. taken (readings ++ o.readings) xs (draws ++ o.draws) in
          subst (λ (f : List Received → List Act). AreInOrder f (p.calls ++ calls))
          (λ i. told_by w acting state (sym (append_assoc p.octets is.line more) i) (sym (append_assoc p.readings readings o.readings) i) (sym (append_assoc p.draws draws o.draws) i))
          (order_more (told_by w acting state (p.octets ++ (is.line ++ more)) (p.readings ++ (readings ++ o.readings)) (p.draws ++ (draws ++ o.draws)))
          (λ xs. acting.acts (acting.after state ds) (said w began l next top (after_it xs)).deeds) (acting.acts state ds) p.calls calls
          (λ xs. ap (λ (c : Woven D). acting.acts state c.deeds)
          (going.goes (is.line ++ more) (after_it xs) ∙ ap (with_deeds ds) (reads_on w began at.version at.number at.offset is.line more l top (after_it xs) is.whole is.is))
          ∙ law.acts state ds (said w began l next top (after_it xs)).deeds)
          going.done.asked (going.in_order (is.line ++ more) (after_it [])) (order next o).0)

      -- and each receive was due
      line_due : IsLineInOrder w acting began l (acting.after state ds) top readings calls draws → (more : List ℕ) (o : Outside)
          → AreDue (stops_by w ((p.octets ++ is.line) ++ more) ((p.readings ++ readings) ++ o.readings) ((p.draws ++ draws) ++ o.draws)) (p.calls ++ calls)
      line_due order more o =
          let next : Later D = woven_from w began (w.followed at.version l) (at.number + 1) (at.offset + length is.line) (lines_of more) in
          let after_it : List Received → Outside = λ xs. taken (readings ++ o.readings) xs (draws ++ o.draws) in
          subst (λ (f : List Received → Stop). AreDue f (p.calls ++ calls))
          (λ i. stops_by w (sym (append_assoc p.octets is.line more) i) (sym (append_assoc p.readings readings o.readings) i) (sym (append_assoc p.draws draws o.draws) i))
          (due_more (stops_by w (p.octets ++ (is.line ++ more)) (p.readings ++ (readings ++ o.readings)) (p.draws ++ (draws ++ o.draws))) (λ xs. (said w began l next top (after_it xs)).stop) p.calls calls
          (λ xs. ap (λ (c : Woven D). c.stop)
          (going.goes (is.line ++ more) (after_it xs) ∙ ap (with_deeds ds) (reads_on w began at.version at.number at.offset is.line more l top (after_it xs) is.whole is.is)))
          (going.due (is.line ++ more) (after_it [])) (order next o).1)

      -- after the line was handled
      pub after : {T : Type 0} (x : T) (now' : RelayTellings) (top' left2 : ℕ) (stands_for : S → Type 0) → now'.left ≡ left' → Wrote now.written now'.written out → Called now.calls now'.calls calls
          → Added now.readings now'.readings readings → Added now.draws now'.draws draws
          → (said : (let r : Result T Status = Ok x in IsSaid r w acting began l (acting.after state ds) top top' left left2 stands_for readings calls draws out))
          → IsLineInOrder w acting began l (acting.after state ds) top readings calls draws → IsRelaying w acting state old now' turns began behind at' (ds ++ said.0) top' left2
      after x now' top' left2 stands_for same wrote called read drew said order = record {
        took = subst (TookIn old.left now'.left) octets_are (subst (λ (o : Tally). TookIn old.left o (p.octets ++ (at.waits ++ got))) (sym same) took_all);
        wrote = wrote_more old.written now.written now'.written p.out out going.wrote wrote;
        called = called_more old.calls now.calls now'.calls p.calls calls going.called called;
        read = added_more old.readings now.readings now'.readings p.readings readings going.read read;
        drew = added_more old.draws now.draws now'.draws p.draws draws going.drew drew;
        goes = λ more o. says more o
            ∙ ap (with_deeds ds) (said.1 (woven_from w began (w.followed at.version l) (at.number + 1) (at.offset + length is.line) (lines_of more)) o)
            ∙ with_deeds_again ds said.0 (woven_from w began (w.followed at.version l) (at.number + 1) (at.offset + length is.line) (lines_of more) top' o)
            ∙ (λ i. with_deeds (ds ++ said.0) (woven_from w began (sym is.version i) (sym is.number i) (sym is.offset i) (lines_of more) top' o));
        done = subst (λ (os : List Act). IsDone os (p.calls ++ calls) (p.out ++ out)) (sym (law.acts state ds said.0))
            (done_more (acting.acts state ds) (acting.acts (acting.after state ds) said.0) p.calls calls p.out out going.done said.2);
        good = AreGood-append p.calls calls going.good said.3;
        paced = omega (arith, going.paced, said.5, length-append p.readings readings, ap length receipts_are, length-append (receipts_in p.calls) (receipts_in calls));
        counted = omega (arith, going.counted, said.6, length-append p.readings readings);
        size = omega (arith, going.size, is.offset, length-append p.octets is.line);
        room = omega (arith, going.room, is.offset, paid, ap length is.split, length-append at.waits got, length-append is.line at'.waits);
        within = is.within;
        in_order = line_order order;
        due = line_due order;
      }

      -- a line that stops where nothing more was taken
      stopped_so : (stop : Stop) → IsStopped w acting began l (acting.after state ds) top stop readings calls draws out → IsWholeRelay w (acting.acts state) with_line stop
      stopped_so stop at_stop =
          whole_at with_line (ds ++ at_stop.deeds) stop
          (says_all ∙ ap (with_deeds ds) (at_stop.stops later) ∙ with_deeds_again ds at_stop.deeds (stopped stop nothing))
          (subst (λ (os : List Act). IsDone os (p.calls ++ calls) (p.out ++ out)) (sym (law.acts state ds at_stop.deeds))
          (done_more (acting.acts state ds) (acting.acts (acting.after state ds) at_stop.deeds) p.calls calls p.out out going.done at_stop.done))
          (AreGood-append p.calls calls going.good at_stop.good)

      -- what a line says of its turns
      pub record Counts : Type 0 where
        pub paced : ArePaced (p.readings ++ readings) (receipts_in (p.calls ++ calls))
        pub most : length (p.readings ++ readings) ≤ turns + 1

      counts_of : ArePairs readings calls → length readings ≤ left → Counts
      counts_of (inl same) few = record {
        paced = pace_so (p.readings ++ readings) (receipts_in (p.calls ++ calls))
            (inl (omega (arith, going.paced, same, length-append p.readings readings, ap length receipts_are, length-append (receipts_in p.calls) (receipts_in calls))));
        most = omega (arith, going.counted, few, length-append p.readings readings);
      }
      counts_of (inr same) few = record {
        paced = pace_so (p.readings ++ readings) (receipts_in (p.calls ++ calls))
            (inr (omega (arith, going.paced, same, length-append p.readings readings, ap length receipts_are, length-append (receipts_in p.calls) (receipts_in calls))));
        most = omega (arith, going.counted, few, length-append p.readings readings);
      }

      -- the line was cut
      stops_so : (x : Status) → IsLineCut x w acting began l (acting.after state ds) top readings calls draws out → StopsWith x (acting.acts state (woven_of w with_line).deeds) (p.calls ++ calls) (p.out ++ out)
      stops_so x (deeds, rest, stops, pairs) =
          stops_in x with_line (ds ++ deeds) (rest later).0 (says_all ∙ ap (with_deeds ds) (rest later).1 ∙ with_deeds_again ds deeds (rest later).0)
          (subst (λ (os : List Act). StopsWith x os (p.calls ++ calls) (p.out ++ out)) (sym (law.acts state ds deeds))
          (stops_after x (acting.acts state ds) (acting.acts (acting.after state ds) deeds) p.calls calls p.out out going.done going.good stops))

      -- what is said of a line whose receive failed, once that is so of the calls before it
      cut_link : ((before : List LinkCall) → IsStopped w acting began l (acting.after state ds) top ForReceive readings before draws out → IsWholeRelay w (acting.acts state) (record with_line { calls = p.calls ++ before }) ForReceive)
          → ((AtFailedReceive (λ before. IsStopped w acting began l (acting.after state ds) top ForReceive readings before draws out) calls × (length readings ≡ length (receipts_in calls)))
          ⊎ IsLineCut Link w acting began l (acting.after state ds) top readings calls draws out) × (length readings ≤ left)
          → RelayEnds w (acting.acts state) Link turns with_line left' × Counts
      cut_link whole (inl ((before, failed, at_stop), paced), few) = (
        inl (p.calls ++ before, ap (λ (l : List LinkCall). p.calls ++ l) failed ∙ sym (append_assoc p.calls before (Receive Failing ∷ [])), whole before at_stop),
        counts_of (inl paced) few,
      )
      cut_link whole (inr cut, few) = (inr (stops_so Link cut), counts_of cut.3 few)

      broken_so : (s : Status) → ((x : Passed) → IsBroken w (acting.acts state) x → RelayEnds w (acting.acts state) s turns x left') → IsPart (acting.acts state (woven_of w with_line).deeds) (p.calls ++ calls) (p.out ++ out) × AreGood (p.calls ++ calls) → RelayEnds w (acting.acts state) s turns with_line left'
      broken_so s ends (part, good) = ends with_line (record { part = part; good = good })

      cut_with : (T : Type 0) (s : Status) (top' left2 : ℕ) (stands_for : S → Type 0) → IsOfLines s
          → ((before : List LinkCall) → IsStopped w acting began l (acting.after state ds) top ForReceive readings before draws out → IsWholeRelay w (acting.acts state) (record with_line { calls = p.calls ++ before }) ForReceive)
          → (let r : Result T Status = Err s in IsSaid r w acting began l (acting.after state ds) top top' left left2 stands_for readings calls draws out) → RelayEnds w (acting.acts state) s turns with_line left' × Counts
      cut_with T s top' left2 stands_for only whole said = of_lines
          (λ (x : Status). (let r : Result T Status = Err x in IsSaid r w acting began l (acting.after state ds) top top' left left2 stands_for readings calls draws out) → RelayEnds w (acting.acts state) x turns with_line left' × Counts)
          s only
          (λ (at_stop, paced, few). (stopped_so ForDraw at_stop, counts_of (inl paced) few))
          (λ (at_stop, paced, all). ((stopped_so ForReading at_stop, omega (arith, going.counted, all, length-append p.readings readings)), counts_of (inl paced) (omega (arith, all))))
          (λ (at_stop, paced, few). ((stopped_so ForReading at_stop, omega (arith, going.counted, few, length-append p.readings readings)), counts_of (inl paced) (omega (arith, few))))
          (λ (cut, few). (broken_so Write (λ x broken. broken) (stops_so Write cut), counts_of cut.3 few))
          (cut_link whole)
          (λ (cut, few). (broken_so NoMemory (λ x broken. broken) (stops_so NoMemory cut), counts_of cut.3 few))
          said

      -- the run ends in a line
      pub ended_in : (s : Status) (now' : RelayTellings) → now'.left ≡ left' → Wrote now.written now'.written out → Called now.calls now'.calls calls
          → Added now.readings now'.readings readings → Added now.draws now'.draws draws → RelayEnds w (acting.acts state) s turns with_line left' × Counts → IsLineInOrder w acting began l (acting.after state ds) top readings calls draws
          → IsRelay w (acting.acts state) s turns old now' with_line
      ended_in s now' same wrote called read drew ends order = record {
        took = subst (λ (o : Tally). TookIn old.left o with_line.octets) (sym same) took_all;
        wrote = wrote_more old.written now.written now'.written p.out out going.wrote wrote;
        called = called_more old.calls now.calls now'.calls p.calls calls going.called called;
        read = added_more old.readings now.readings now'.readings p.readings readings going.read read;
        drew = added_more old.draws now.draws now'.draws p.draws draws going.drew drew;
        ends = subst (RelayEnds w (acting.acts state) s turns with_line) (sym same) ends.0;
        bound = bounded at'.budget paid;
        most = ends.1.most;
        paced = ends.1.paced;
        in_order = subst (λ (f : List Received → List Act). AreInOrder f (p.calls ++ calls))
            (λ i. told_by w acting state (sym octets_are i) (append-nil (p.readings ++ readings) i) (append-nil (p.draws ++ draws) i)) (line_order order at'.waits nothing);
        due = subst (λ (f : List Received → Stop). AreDue f (p.calls ++ calls))
            (λ i. stops_by w (sym octets_are i) (append-nil (p.readings ++ readings) i) (append-nil (p.draws ++ draws) i)) (line_due order at'.waits nothing);
      }

    -- of a line that was cut
    pub cut : (l : L) (at' : Reading) (paid : length got + at'.budget ≡ at.budget) (is : IsReadBy w.spelled w.followed l at at' got) (readings : List ℕ) (calls : List LinkCall) (draws out : List ℕ)
        (T : Type 0) (s : Status) (top' left2 : ℕ) (stands_for : S → Type 0) → IsOfLines s
        → (let r : Result T Status = Err s in IsSaid r w acting began l (acting.after state ds) top top' left left2 stands_for readings calls draws out)
        → RelayEnds w (acting.acts state) s turns (with_line l at' paid is readings calls draws out) left' × Counts l at' paid is readings calls draws out
    cut l at' paid is readings calls draws out T s top' left2 stands_for only said =
        cut_with l at' paid is readings calls draws out T s top' left2 stands_for only (λ before at_stop. stopped_so l at' paid is readings before draws out ForReceive at_stop) said

  -- ---- the beginning

  first_woven : (r : ℕ) (calls : List LinkCall) (out : List ℕ) → receipts_in calls ≡ [] → woven_of w (only_begun (r ∷ []) calls out) ≡ with_deeds (w.ticks (moment_of r)) (stopped BehindAll nothing)
  first_woven r calls out none = ap (λ (xs : List Received). woven w [] (r ∷ []) xs []) none

  begun_stops : (s : Status) (r : ℕ) (calls : List LinkCall) (out : List ℕ) → receipts_in calls ≡ [] → StopsWith s (acting.acts state (w.ticks (moment_of r))) calls out → StopsWith s (acting.acts state (woven_of w (only_begun (r ∷ []) calls out)).deeds) calls out
  begun_stops s r calls out none stops = stops_in s (only_begun (r ∷ []) calls out) (w.ticks (moment_of r)) (stopped BehindAll nothing) (first_woven r calls out none) stops

  begun_pace : (turns r : ℕ) (calls : List LinkCall) → receipts_in calls ≡ [] → ArePaced (r ∷ []) (receipts_in calls) × (length (let one : List ℕ = r ∷ [] in one) ≤ turns + 1)
  begun_pace turns r calls none = (subst (λ (xs : List Received). ArePaced (r ∷ []) xs) (sym none) (inl refl), omega arith)

  module _ (turns : ℕ) (left : Tally) (stands_for : S → Type 0) (readings : List ℕ) (calls : List LinkCall) (out : List ℕ) where
    -- what a status says of a run that ends with its first reading
    abbrev EndsAtOnce : Status → Type 0
    EndsAtOnce s = RelayEnds w (acting.acts state) s turns (only_begun readings calls out) left × ArePaced readings (receipts_in calls) × (length readings ≤ turns + 1) × (receipts_in calls ≡ [])

    -- the tick of the first reading was handled in part
    cut_tick : (s : Status) (ends : (r : ℕ) → StopsWith s (acting.acts state (woven_of w (only_begun (r ∷ []) calls out)).deeds) calls out → RelayEnds w (acting.acts state) s turns (only_begun (r ∷ []) calls out) left)
        → (r : ℕ) → readings ≡ r ∷ [] → receipts_in calls ≡ [] → StopsWith s (acting.acts state (w.ticks (moment_of r))) calls out → EndsAtOnce s
    cut_tick s ends r one none stops =
        subst (λ (l : List ℕ). RelayEnds w (acting.acts state) s turns (only_begun l calls out) left × ArePaced l (receipts_in calls) × (length l ≤ turns + 1) × (receipts_in calls ≡ [])) (sym one)
        (ends r (begun_stops s r calls out none stops), (begun_pace turns r calls none).0, (begun_pace turns r calls none).1, none)

    pub begun_ends : (s : Status) → IsOfTurns s → IsBegun (Err s) w acting state stands_for readings calls out → EndsAtOnce s
    begun_ends s only begun = of_turns (λ (x : Status). IsBegun (Err x) w acting state stands_for readings calls out → EndsAtOnce x) s only
        (λ (none, uncalled, unwritten). (
          (
            whole_at (only_begun readings calls out) [] ForReading (λ i. woven w [] (none i) (receipts_in (uncalled i)) [])
                (done_nothing acting law state calls out (subst (λ (l : List ℕ). IsDone [] calls l) (sym unwritten) (subst (λ (l : List LinkCall). IsDone [] l []) (sym uncalled) done_none)))
                (subst AreGood (sym uncalled) tt),
            omega (arith, ap length none),
          ),
          subst (λ (l : List ℕ). ArePaced l (receipts_in calls)) (sym none) (ap receipts_in uncalled),
          omega (arith, ap length none),
          ap receipts_in uncalled,
        ))
        (λ (r, one, none, stops). cut_tick Write (λ r (part, good). record { part = part; good = good }) r one none stops)
        (λ (r, one, none, stops). cut_tick Link (λ r cut. inr cut) r one none stops)
        (λ (r, one, none, stops). cut_tick NoMemory (λ r (part, good). record { part = part; good = good }) r one none stops)
        begun

  -- the first line comes next
  pub begins_so : (old now : RelayTellings) (turns began : ℕ) (stands_for : S → Type 0) (readings : List ℕ) (calls : List LinkCall) (out : List ℕ)
      → TookIn old.left now.left [] → Wrote old.written now.written out → Called old.calls now.calls calls → Added old.readings now.readings readings → Added old.draws now.draws []
      → (begun : IsBegun (Ok began) w acting state stands_for readings calls out)
      → IsRelaying w acting state old now turns began (only_begun readings calls out) (record { waits = []; version = 1; number = 1; offset = 0; budget = 2 ^ 30 + 1 }) (w.ticks (moment_of begun.0)) began turns
  begins_so old now turns began stands_for readings calls out took wrote called read drew (r, one, is, none, done, good, stands) = record {
    took = took;
    wrote = wrote;
    called = called;
    read = read;
    drew = drew;
    goes = λ rest o. (λ i. woven w rest (one i ++ o.readings) (none i ++ o.receipts) o.draws) ∙ ap (λ (m : ℕ). with_deeds (w.ticks (moment_of r)) (woven_from w m 1 1 0 (lines_of rest) m o)) (sym is);
    done = done;
    good = good;
    paced = omega (arith, ap length one, ap length none);
    counted = omega (arith, ap length one);
    size = refl;
    room = refl;
    within = omega arith;
    in_order = λ rest o. order_none (told_by w acting state rest (readings ++ o.readings) o.draws) calls none;
    due = λ rest o. due_none (stops_by w rest (readings ++ o.readings) o.draws) calls none;
  }

  -- the same of an equal beginning
  pub began_so : (old now : RelayTellings) (turns began began' : ℕ) (p : Passed) (at : Reading) (ds : List D) (top left : ℕ) → began' ≡ began → IsRelaying w acting state old now turns began p at ds top left
      → IsRelaying w acting state old now turns began' p at ds top left
  began_so old now turns began began' p at ds top left same going = subst (λ (b : ℕ). IsRelaying w acting state old now turns b p at ds top left) (sym same) going

  -- and of an equal reading
  pub reading_so : (old now : RelayTellings) (turns began : ℕ) (p : Passed) (at at' : Reading) (ds : List D) (top left : ℕ) → at ≡ at' → IsRelaying w acting state old now turns began p at' ds top left
      → IsRelaying w acting state old now turns began p at ds top left
  reading_so old now turns began p at at' ds top left same going = subst (λ (a : Reading). IsRelaying w acting state old now turns began p a ds top left) (sym same) going
