-- What the parts of a relay leave.
use Rattle.std.specs.Prelude.{◌≡◌, ◌⊎◌, ◌<◌, ◌≤◌, ◌+◌, length, max, ℕ, List, [], ◌∷◌, ◌++◌, Option, Some, None, Result, Ok, Err}
use Rattle.sg_base.specs.declared.faults.Failed.{Failed}
use Rattle.sg_trace.specs.Course.{Given}
use Rattle.sg_trace.specs.Trace.{ForDraw, ForReading, ForReceive, Outside, Stop, moment_of}
use Rattle.sg_trace.specs.Output.{IsPrefixOf}
use Rattle.sg_trace.specs.declared.status.Status.{Status}
use Rattle.sg_trace.specs.declared.status.Status.TheVariants.{Link, Clock, Noise, TurnsSpent}
use Rattle.sg_edge.specs.Links.{Failing, LinkCall, Receive, Received}
use Rattle.sg_relay.specs.Acting.{Acting}
use Rattle.sg_relay.specs.Asked.{Act, AreDue, AreGood, AreInOrder, Ask, AtFailedReceive, EndsBadly, IsCutOff, IsDone, IsPart, asks_in, receipts_in, sends_in}
use Rattle.sg_relay.specs.Weaving.{Later, Weaves, Woven, arrivals_of, said, stopped, ticks_of, waited, with_deeds}

-- These are the calls that were asked for, and none else: each went well, or the last one failed.
abbrev pub IsHeld : Result (Unit {0}) Failed → List Ask → List LinkCall → Type 0
IsHeld (Ok u) asks calls = (asks_in calls ≡ asks) × AreGood calls × (sends_in calls ≡ []) × (receipts_in calls ≡ [])
IsHeld (Err e) asks calls = IsPrefixOf (asks_in calls) asks × EndsBadly calls × (sends_in calls ≡ []) × (receipts_in calls ≡ [])

-- With Link the acts were cut off; with every other status a prefix of them was done, and no call but sends has
-- failed.
abbrev pub StopsWith : Status → List Act → List LinkCall → List ℕ → Type 0
StopsWith Link acts calls out = IsCutOff acts calls out
StopsWith other acts calls out = IsPart acts calls out × AreGood calls

-- how it ended, whatever it hands back
abbrev pub ended_as : {T : Type 0} → Result T Status → Result (Unit {0}) Status
ended_as (Ok x) = Ok tt
ended_as (Err status) = Err status

-- The acts were done, or a prefix of them; nothing was received.
abbrev pub AreCarriedOut : Result (Unit {0}) Status → List Act → List LinkCall → List ℕ → Type 0
AreCarriedOut (Ok u) acts calls out = IsDone acts calls out × AreGood calls × (receipts_in calls ≡ [])
AreCarriedOut (Err status) acts calls out = StopsWith status acts calls out × (receipts_in calls ≡ [])

-- What is to be done for the deeds was done, and the state after them is stood for; or a prefix of it was.
abbrev pub AreHandled : {T S D : Type 0} → Result T Status → Acting S D → S → List D → (S → Type 0) → List LinkCall → List ℕ → Type 0
AreHandled (Ok x) a state deeds stands_for calls out =
    IsDone (a.acts state deeds) calls out × AreGood calls × (receipts_in calls ≡ []) × stands_for (a.after state deeds)
AreHandled (Err status) a state deeds stands_for calls out = StopsWith status (a.acts state deeds) calls out × (receipts_in calls ≡ [])

-- ---- turns

-- A receive was made, and its datagram handled, whole or in part; or the receive failed.
abbrev pub IsReceived : {T L S D : Type 0} → Result T Status → Weaves L D → Acting S D → S → (S → Type 0) → Received → List LinkCall → List ℕ → Type 0
IsReceived (Ok pad) w a state stands_for x calls out =
    (receipts_in calls ≡ x ∷ []) × IsDone (a.acts state (arrivals_of w x)) calls out × AreGood calls × stands_for (a.after state (arrivals_of w x))
IsReceived (Err status) w a state stands_for x calls out =
    ((status ≡ Link) × (calls ≡ Receive Failing ∷ []) × (out ≡ [])) ⊎ ((receipts_in calls ≡ x ∷ []) × StopsWith status (a.acts state (arrivals_of w x)) calls out)

-- the deeds of a turn that took this reading and these answers of its receive, of which there is one at most
abbrev pub turned : {L D : Type 0} → Weaves L D → ℕ → ℕ → List Received → List D
turned w top r [] = ticks_of w top r
turned w top r (x ∷ xs) = ticks_of w top r ++ arrivals_of w x

-- a turn that was cut, which took its reading and at most its receive
abbrev pub IsTurnCut : {L S D : Type 0} → Status → Weaves L D → Acting S D → S → ℕ → List ℕ → List LinkCall → List ℕ → Type 0
IsTurnCut status w a state top readings calls out =
    (r : ℕ) × (xs : List Received) × (readings ≡ r ∷ []) × (receipts_in calls ≡ xs) × (length xs ≤ 1) × StopsWith status (a.acts state (turned w top r xs)) calls out

-- a turn whose receive failed
abbrev pub IsTurnUnreceived : {L S D : Type 0} → Weaves L D → Acting S D → S → ℕ → List ℕ → List LinkCall → List ℕ → Type 0
IsTurnUnreceived w a state top readings calls out =
    (r : ℕ) × (readings ≡ r ∷ []) × AtFailedReceive (λ before. (receipts_in before ≡ []) × IsDone (a.acts state (ticks_of w top r)) before out × AreGood before) calls

-- A turn took one reading and one receive. With Clock it took none; where it ended otherwise, it was cut, or its
-- receive failed.
abbrev pub IsTurn : {L S D : Type 0} → Result (ℕ × List ℕ) Status → Weaves L D → Acting S D → S → ℕ → ℕ → (S → Type 0) → List ℕ → List LinkCall → List ℕ → Type 0
IsTurn (Ok given) w a state top top' stands_for readings calls out =
    (r : ℕ) × (x : Received) × (readings ≡ r ∷ []) × (receipts_in calls ≡ x ∷ []) × (given.0 ≡ moment_of r) × (top' ≡ max top given.0)
    × IsDone (a.acts state (ticks_of w top r ++ arrivals_of w x)) calls out × AreGood calls × stands_for (a.after state (ticks_of w top r ++ arrivals_of w x))
IsTurn (Err Clock) w a state top top' stands_for readings calls out = (readings ≡ []) × (calls ≡ []) × (out ≡ [])
IsTurn (Err Link) w a state top top' stands_for readings calls out = IsTurnUnreceived w a state top readings calls out ⊎ IsTurnCut Link w a state top readings calls out
IsTurn (Err status) w a state top top' stands_for readings calls out = IsTurnCut status w a state top readings calls out

-- A wait comes to a reading or a receive that wasn't taken, and all its deeds were handled.
pub record IsWaiting {L S D : Type 0} (stop : Stop) (w : Weaves L D) (a : Acting S D) (until : ℕ) (state : S) (top : ℕ) (readings : List ℕ) (calls : List LinkCall) (out : List ℕ) : Type 0 where
  pub deeds : List D
  pub stops : (later : Later D) (draws : List ℕ)
      → waited w until later top readings (receipts_in calls) draws ≡ with_deeds deeds (stopped stop (record { readings = []; receipts = []; draws = draws }))
  pub done : IsDone (a.acts state deeds) calls out
  pub good : AreGood calls

-- a receive for each reading, or for each but the last
abbrev pub ArePairs : List ℕ → List LinkCall → Type 0
ArePairs readings calls = (length readings ≡ length (receipts_in calls)) ⊎ (length readings ≡ length (receipts_in calls) + 1)

-- a wait that was cut
abbrev pub IsWaitCut : {L S D : Type 0} → Status → Weaves L D → Acting S D → ℕ → S → ℕ → List ℕ → List LinkCall → List ℕ → Type 0
IsWaitCut {L} {S} {D} status w a until state top readings calls out =
    (deeds : List D)
    × ((later : Later D) (draws : List ℕ) → (rest : Woven D) × (waited w until later top readings (receipts_in calls) draws ≡ with_deeds deeds rest))
    × StopsWith status (a.acts state deeds) calls out × ArePairs readings calls

-- A wait is over, or comes to its next reading, or ended in a turn.
abbrev pub IsWaited : {L S D : Type 0} → Result (List ℕ) Status → Weaves L D → Acting S D → ℕ → S → ℕ → ℕ → ℕ → ℕ → (S → Type 0) → List ℕ → List LinkCall → List ℕ → Type 0
IsWaited {L} {S} {D} (Ok pad) w a until state top top' turns turns' stands_for readings calls out =
    (deeds : List D)
    × ((later : Later D) (rs : List ℕ) (xs : List Received) (draws : List ℕ)
    → waited w until later top (readings ++ rs) (receipts_in calls ++ xs) draws ≡ with_deeds deeds (later top' (record { readings = rs; receipts = xs; draws = draws })))
    × IsDone (a.acts state deeds) calls out × AreGood calls × stands_for (a.after state deeds)
    × (length readings ≡ length (receipts_in calls)) × (length readings + turns' ≡ turns)
IsWaited (Err TurnsSpent) w a until state top top' turns turns' stands_for readings calls out =
    IsWaiting ForReading w a until state top readings calls out × (length readings ≡ length (receipts_in calls)) × (length readings ≡ turns)
IsWaited (Err Clock) w a until state top top' turns turns' stands_for readings calls out =
    IsWaiting ForReading w a until state top readings calls out × (length readings ≡ length (receipts_in calls)) × (length readings < turns)
IsWaited (Err Link) w a until state top top' turns turns' stands_for readings calls out =
    ((AtFailedReceive (λ before. IsWaiting ForReceive w a until state top readings before out) calls × (length readings ≡ length (receipts_in calls)))
    ⊎ IsWaitCut Link w a until state top readings calls out) × (length readings ≤ turns)
IsWaited (Err status) w a until state top top' turns turns' stands_for readings calls out = IsWaitCut status w a until state top readings calls out × (length readings ≤ turns)

-- ---- lines

-- what was taken of the outside, and what follows
abbrev pub taking : List ℕ → List Received → List ℕ → Outside → Outside
taking readings receipts draws o = record { readings = readings ++ o.readings; receipts = receipts ++ o.receipts; draws = draws ++ o.draws }

abbrev pub taken : List ℕ → List Received → List ℕ → Outside
taken readings receipts draws = record { readings = readings; receipts = receipts; draws = draws }

-- Of the noise that comes a line gives these deeds, for which these octets were drawn.
abbrev pub Gives : {D : Type 0} → (List ℕ → Option (Given D)) → List ℕ → List D → Type 0
Gives gives draws deeds = (more : List ℕ) → gives (draws ++ more) ≡ Some (record { deeds = deeds; left = more })

-- What a line gives was handled, or in part. With Noise it lacks noise, and none was drawn.
abbrev pub IsGiven : {T S D : Type 0} → Result T Status → (List ℕ → Option (Given D)) → Acting S D → S → (S → Type 0) → List LinkCall → List ℕ → List ℕ → Type 0
IsGiven {T} {S} {D} (Ok x) gives a state stands_for calls draws out =
    (deeds : List D) × Gives gives draws deeds
    × IsDone (a.acts state deeds) calls out × AreGood calls × (receipts_in calls ≡ []) × stands_for (a.after state deeds)
IsGiven (Err Noise) gives a state stands_for calls draws out = (draws ≡ []) × (gives [] ≡ None) × (calls ≡ []) × (out ≡ [])
IsGiven {T} {S} {D} (Err status) gives a state stands_for calls draws out =
    (deeds : List D) × Gives gives draws deeds × StopsWith status (a.acts state deeds) calls out × (receipts_in calls ≡ [])

-- A line comes to a reading, a receive or a draw that wasn't taken, and all its deeds were handled.
pub record IsStopped {L S D : Type 0} (w : Weaves L D) (a : Acting S D) (began : ℕ) (l : L) (state : S) (top : ℕ) (stop : Stop) (readings : List ℕ) (calls : List LinkCall) (draws : List ℕ) (out : List ℕ) : Type 0 where
  pub deeds : List D
  pub stops : (later : Later D) → said w began l later top (taken readings (receipts_in calls) draws) ≡ with_deeds deeds (stopped stop (taken [] [] []))
  pub done : IsDone (a.acts state deeds) calls out
  pub good : AreGood calls

-- a line that was cut
abbrev pub IsLineCut : {L S D : Type 0} → Status → Weaves L D → Acting S D → ℕ → L → S → ℕ → List ℕ → List LinkCall → List ℕ → List ℕ → Type 0
IsLineCut {L} {S} {D} status w a began l state top readings calls draws out =
    (deeds : List D)
    × ((later : Later D) → (rest : Woven D) × (said w began l later top (taken readings (receipts_in calls) draws) ≡ with_deeds deeds rest))
    × StopsWith status (a.acts state deeds) calls out × ArePairs readings calls

-- A line was handled, or in part.
abbrev pub IsSaid : {T L S D : Type 0} → Result T Status → Weaves L D → Acting S D → ℕ → L → S → ℕ → ℕ → ℕ → ℕ → (S → Type 0) → List ℕ → List LinkCall → List ℕ → List ℕ → Type 0
IsSaid {T} {L} {S} {D} (Ok x) w a began l state top top' turns turns' stands_for readings calls draws out =
    (deeds : List D)
    × ((later : Later D) (o : Outside) → said w began l later top (taking readings (receipts_in calls) draws o) ≡ with_deeds deeds (later top' o))
    × IsDone (a.acts state deeds) calls out × AreGood calls × stands_for (a.after state deeds)
    × (length readings ≡ length (receipts_in calls)) × (length readings + turns' ≡ turns)
IsSaid (Err TurnsSpent) w a began l state top top' turns turns' stands_for readings calls draws out =
    IsStopped w a began l state top ForReading readings calls draws out × (length readings ≡ length (receipts_in calls)) × (length readings ≡ turns)
IsSaid (Err Clock) w a began l state top top' turns turns' stands_for readings calls draws out =
    IsStopped w a began l state top ForReading readings calls draws out × (length readings ≡ length (receipts_in calls)) × (length readings < turns)
IsSaid (Err Noise) w a began l state top top' turns turns' stands_for readings calls draws out =
    IsStopped w a began l state top ForDraw readings calls draws out × (length readings ≡ length (receipts_in calls)) × (length readings ≤ turns)
IsSaid (Err Link) w a began l state top top' turns turns' stands_for readings calls draws out =
    ((AtFailedReceive (λ before. IsStopped w a began l state top ForReceive readings before draws out) calls × (length readings ≡ length (receipts_in calls)))
    ⊎ IsLineCut Link w a began l state top readings calls draws out) × (length readings ≤ turns)
IsSaid (Err status) w a began l state top top' turns turns' stands_for readings calls draws out = IsLineCut status w a began l state top readings calls draws out × (length readings ≤ turns)

-- A relay has begun with its first reading as a tick; with Clock there was none.
abbrev pub IsBegun : {L S D : Type 0} → Result ℕ Status → Weaves L D → Acting S D → S → (S → Type 0) → List ℕ → List LinkCall → List ℕ → Type 0
IsBegun (Ok began) w a state stands_for readings calls out =
    (r : ℕ) × (readings ≡ r ∷ []) × (began ≡ moment_of r) × (receipts_in calls ≡ [])
    × IsDone (a.acts state (w.ticks (moment_of r))) calls out × AreGood calls × stands_for (a.after state (w.ticks (moment_of r)))
IsBegun (Err Clock) w a state stands_for readings calls out = (readings ≡ []) × (calls ≡ []) × (out ≡ [])
IsBegun (Err status) w a state stands_for readings calls out =
    (r : ℕ) × (readings ≡ r ∷ []) × (receipts_in calls ≡ []) × StopsWith status (a.acts state (w.ticks (moment_of r))) calls out

-- ---- in which order the link was called

-- the first call is this receive, and no other call is one
abbrev pub IsReceivedFirst : Received → List LinkCall → Type 0
IsReceivedFirst x calls = (rest : List LinkCall) × (calls ≡ Receive x ∷ rest) × (receipts_in rest ≡ [])

-- in a turn; without its reading there was no call
abbrev pub IsTurnInOrder : {L S D : Type 0} → Weaves L D → Acting S D → S → ℕ → List ℕ → List LinkCall → Type 0
IsTurnInOrder w a state top readings calls =
    (calls ≡ []) ⊎ ((r : ℕ) × (readings ≡ r ∷ []) × (length (receipts_in calls) ≤ 1) × AreInOrder (λ receipts. a.acts state (turned w top r receipts)) calls)

-- in a wait, whatever is taken after it; each receive was due
abbrev pub IsWaitInOrder : {L S D : Type 0} → Weaves L D → Acting S D → ℕ → S → ℕ → List ℕ → List LinkCall → Type 0
IsWaitInOrder {L} {S} {D} w a until state top readings calls =
    (later : Later D) (rs draws : List ℕ)
    → AreInOrder (λ receipts. a.acts state (waited w until later top (readings ++ rs) receipts draws).deeds) calls
    × AreDue (λ receipts. (waited w until later top (readings ++ rs) receipts draws).stop) calls

-- in a line, whatever is taken after it; each receive was due
abbrev pub IsLineInOrder : {L S D : Type 0} → Weaves L D → Acting S D → ℕ → L → S → ℕ → List ℕ → List LinkCall → List ℕ → Type 0
IsLineInOrder {L} {S} {D} w a began l state top readings calls draws =
    (later : Later D) (o : Outside)
    → AreInOrder (λ receipts. a.acts state (said w began l later top (taken (readings ++ o.readings) receipts (draws ++ o.draws))).deeds) calls
    × AreDue (λ receipts. (said w began l later top (taken (readings ++ o.readings) receipts (draws ++ o.draws))).stop) calls
