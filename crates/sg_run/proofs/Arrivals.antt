-- What a relay receives and reads comes to its events: by its weaving, line by line and turn by turn.
use Rattle.std.proofs.Common.{◌≡◌, ◌+◌, ℕ, List, [], ◌∷◌, ◌++◌, length, max, map, filter, take, nat_lt, nat_le, Bool, true, false, Option, Some, None, Result, Ok, Err, refl, sym, ap, ap₂, ◌∙◌, append_assoc, append-nil, if◌then◌else◌, option_map, arith}
use Rattle.std.proofs.Math.Seq.{take-append_seam}
use Rattle.std.proofs.lemmas.Grind.{flat_map-append}
use Rattle.std.proofs.lemmas.List.Folds.{flat_map-map}
use Rattle.std.specs.List.{flat_map}
use Rattle.sg_base.specs.declared.faults.ScriptFault.{ScriptFault}
use Rattle.sg_edge.specs.Links.{Came, Failing, Nothing, Received}
use Rattle.sg_gateway.specs.Drawn.{signal_with_noise}
use Rattle.sg_gateway.specs.Events.{events_of, signal_lacks_noise, signal_of}
use Rattle.sg_gateway.specs.Step.{Event, Signalled}
use Rattle.sg_lines.specs.ScriptLines.{lines_of}
use Rattle.sg_lines.specs.declared.lines.Line.{Line}
use Rattle.sg_lines.specs.declared.lines.Line.TheVariants as lines
use Rattle.sg_lines.specs.declared.lines.Signal as scripts
use Rattle.sg_lines.specs.declared.lines.Signal.TheVariants.{Tick, Psk, Manual, OfferSecure, OfferSdes, OfferMikey, Answer, Reject, Bye}
use Rattle.sg_base.specs.declared.identities.Noise304.{Noise304}
use Rattle.sg_pairs.specs.Bridged.{Happens}
use Rattle.sg_pairs.specs.declared.lines.BridgeLine.{BridgeLine}
use Rattle.sg_pairs.specs.declared.lines.BridgeLine.TheVariants as bridge_lines
use Rattle.sg_relay.specs.Asked.{Act, receipts_in}
use Rattle.sg_relay.specs.Joined as joined
use Rattle.sg_relay.specs.Plain as plain
use Rattle.sg_relay.specs.Relay.{IsRelay, IsWholeRelay, Passed, RelayEnds, RelayTellings, deeds_by, stop_by, woven_of}
use Rattle.sg_relay.specs.Weaving.{Later, Weaves, Woven, arrivals_of, behind_given, behind_line, stopped, ticks_of, until_at, waited, waited_or_given, with_deeds, woven, woven_from}
use Rattle.sg_run.specs.Arrived.{HasTicked, TakesAsReceived, TicksAsRead, came, came_to_bridge, moments_of, rising, tick_in, tick_said, ticks_in, ticks_said}
use Rattle.sg_trace.specs.Course.{Given}
use Rattle.sg_trace.specs.Trace.{AtEnd, AtFault, ForDraw, ForReading, ForReceive, Outside, Stop, moment_of, spelled_at}
use Rattle.sg_trace.specs.declared.status.Status.{Status}
use Rattle.sg_trace.specs.declared.status.Status.TheVariants.{Capture, Clock, Done, Link, NoMemory, Noise, Read, Script, TurnsSpent, Usage, Write}

-- ---- what comes next behind a receive

module _ {L D : Type 0} (w : Weaves L D) where
  -- Where a receive comes next, what follows is its arrival, and then what follows whatever is received.
  abbrev TakesNext : (List Received → Woven D) → Type 0
  TakesNext f = (before after : List Received) → (f before).stop ≡ ForReceive
      → (rest : List D) × ((y : Received) → (f (before ++ y ∷ after)).deeds ≡ (f before).deeds ++ (arrivals_of w y ++ rest))

  abbrev LaterTakes : Later D → Type 0
  LaterTakes later = (top : ℕ) (rs draws : List ℕ) → TakesNext (λ xs. later top (record { readings = rs; receipts = xs; draws = draws }))

  takes_none : (stop : Stop) → (stop ≡ ForReceive → ⊥) → (left : List Received → Outside) → TakesNext (λ xs. stopped stop (left xs))
  takes_none stop isnt left before after at = absurd (isnt at)

  takes_more : (ds : List D) (f : List Received → Woven D) → TakesNext f → TakesNext (λ xs. with_deeds ds (f xs))
  takes_more ds f takes before after at =
      let next = takes before after at in
      (next.0, λ y. ap (λ (l : List D). ds ++ l) (next.1 y) ∙ sym (append_assoc ds (f before).deeds (arrivals_of w y ++ next.0)))

  takes_if : (b : Bool) (f g : List Received → Woven D) → TakesNext f → TakesNext g → TakesNext (λ xs. if b then f xs else g xs)
  takes_if true f g first second = first
  takes_if false f g first second = second

  takes_waited : (until : ℕ) (later : Later D) → LaterTakes later → (top : ℕ) (rs draws : List ℕ) → TakesNext (λ xs. waited w until later top rs xs draws)
  takes_waited until later takes top [] draws before after at = absurd (cc)
  takes_waited until later takes top (r ∷ rs) draws [] after at =
      let rest : List D =
      (if nat_le until (moment_of r) then later (max top (moment_of r)) (record { readings = rs; receipts = after; draws = draws }) else waited w until later (max top (moment_of r)) rs after draws).deeds in
      (rest, λ y. append_assoc (ticks_of w top r) (arrivals_of w y) rest ∙ ap (λ (l : List D). l ++ (arrivals_of w y ++ rest)) (sym (append-nil (ticks_of w top r))))
  takes_waited until later takes top (r ∷ rs) draws (x ∷ before) after at =
      takes_more (ticks_of w top r ++ arrivals_of w x)
      (λ xs. if nat_le until (moment_of r) then later (max top (moment_of r)) (record { readings = rs; receipts = xs; draws = draws }) else waited w until later (max top (moment_of r)) rs xs draws)
      (takes_if (nat_le until (moment_of r)) (λ xs. later (max top (moment_of r)) (record { readings = rs; receipts = xs; draws = draws })) (λ xs. waited w until later (max top (moment_of r)) rs xs draws)
      (takes (max top (moment_of r)) rs draws) (takes_waited until later takes (max top (moment_of r)) rs draws))
      before after at

  takes_given : (g : Option (Given D)) (later : Later D) → LaterTakes later → (top : ℕ) (rs draws : List ℕ) → TakesNext (λ xs. behind_given g later top (record { readings = rs; receipts = xs; draws = draws }))
  takes_given None later takes top rs draws = takes_none ForDraw (λ is. absurd cc) (λ xs. record { readings = rs; receipts = xs; draws = draws })
  takes_given (Some g) later takes top rs draws = takes_more g.deeds (λ xs. later top (record { readings = rs; receipts = xs; draws = g.left })) (takes top rs g.left)

  takes_said : (l : L) (until : Option ℕ) (later : Later D) → LaterTakes later → LaterTakes (waited_or_given w l until later)
  takes_said l None later takes top rs draws = takes_given (w.gives l draws) later takes top rs draws
  takes_said l (Some until) later takes top rs draws = takes_waited until later takes top rs draws

  takes_line : (began version n : ℕ) (r : Result L ScriptFault) (later : ℕ → Later D) → ((v : ℕ) → LaterTakes (later v)) → LaterTakes (behind_line w began version n r later)
  takes_line began version n (Err fault) later takes top rs draws = takes_none (AtFault n fault) (λ is. absurd cc) (λ xs. record { readings = rs; receipts = xs; draws = draws })
  takes_line began version n (Ok l) later takes top rs draws = takes_said l (until_at w began l) (later (w.followed version l)) (takes (w.followed version l)) top rs draws

  takes_lines : (began version n at : ℕ) (ls : List (List ℕ)) → LaterTakes (woven_from w began version n at ls)
  takes_lines began version n at [] top rs draws = takes_none AtEnd (λ is. absurd cc) (λ xs. record { readings = rs; receipts = xs; draws = draws })
  takes_lines began version n at (l ∷ ls) top rs draws =
      takes_line began version n (spelled_at w.spelled version n at l) (λ v. woven_from w began v (n + 1) (at + length l) ls) (λ v. takes_lines began v (n + 1) (at + length l) ls) top rs draws

  -- so of a weaving
  pub takes_all : (octets readings draws : List ℕ) → TakesNext (λ xs. woven w octets readings xs draws)
  takes_all octets [] draws = takes_none ForReading (λ is. absurd cc) (λ xs. record { readings = []; receipts = xs; draws = draws })
  takes_all octets (r ∷ rs) draws =
      takes_more (w.ticks (moment_of r)) (λ xs. woven_from w (moment_of r) 1 1 0 (lines_of octets) (moment_of r) (record { readings = rs; receipts = xs; draws = draws }))
      (takes_lines (moment_of r) 1 1 0 (lines_of octets) (moment_of r) rs draws)

-- ---- numbers that rise

over : (top m n : ℕ) (x y : List ℕ) (a : Bool) → nat_lt m n ≡ a → (if a then (if nat_lt top n then n ∷ x else x) else x) ≡ (if nat_lt (max top m) n then n ∷ x else x)
over top m n x y true is = let e : nat_lt top n ≡ nat_lt (max top m) n = grind arith in ap (λ b. if b then n ∷ x else x) e
over top m n x y false is = let e : false ≡ nat_lt (max top m) n = grind arith in ap (λ b. if b then n ∷ x else x) e

kept : (p : ℕ → Bool) (b : Bool) (n : ℕ) (ns : List ℕ) → filter p (if b then n ∷ ns else ns) ≡ (if b then (if p n then n ∷ filter p ns else filter p ns) else filter p ns)
kept p true n ns = refl
kept p false n ns = refl

over_both : (top m : ℕ) (ns : List ℕ) → filter (nat_lt top) (filter (nat_lt m) ns) ≡ filter (nat_lt (max top m)) ns
over_both top m [] = refl
over_both top m (n ∷ ns) =
    kept (nat_lt top) (nat_lt m n) n (filter (nat_lt m) ns) ∙ over top m n (filter (nat_lt top) (filter (nat_lt m) ns)) [] (nat_lt m n) refl
    ∙ ap (λ (l : List ℕ). if nat_lt (max top m) n then n ∷ l else l) (over_both top m ns)

-- what is greater than all before comes first
next_over : (b : Bool) (m : ℕ) (x y : List ℕ) → x ≡ y → (if b then m ∷ [] else []) ++ x ≡ (if b then m ∷ y else y)
next_over true m x y same = ap (λ (l : List ℕ). m ∷ l) same
next_over false m x y same = same

-- what a line gives, if it gives anything, has no tick
abbrev GivesNone : {D : Type 0} → (D → List ℕ) → Option (Given D) → Type 0
GivesNone tick_in None = Unit {0}
GivesNone tick_in (Some g) = flat_map tick_in g.deeds ≡ []

module _ {L D : Type 0} (w : Weaves L D) (tick_of : D → List ℕ) (ticks_tell : (m : ℕ) → flat_map tick_of (w.ticks m) ≡ m ∷ []) (arrivals_none : (x : Received) → flat_map tick_of (arrivals_of w x) ≡ []) where
  abbrev told : List D → List ℕ
  told ds = flat_map tick_of ds

  -- The readings that were taken are the first of these; the moments among the deeds are those of them that are greater than all before.
  record IsTimed (top : ℕ) (readings : List ℕ) (receipts : List Received) (c : Woven D) : Type 0 where
    taken : List ℕ
    readings_are : readings ≡ taken ++ c.left.readings
    told_are : told c.deeds ≡ filter (nat_lt top) (rising (map moment_of taken))
    next : c.stop ≡ ForReceive → length taken ≡ length receipts + 1

  abbrev LaterTimed : Later D → Type 0
  LaterTimed later = (top : ℕ) (o : Outside) → IsTimed top o.readings o.receipts (later top o)

  timed_none : (stop : Stop) → (stop ≡ ForReceive → ⊥) → (top : ℕ) (o : Outside) → IsTimed top o.readings o.receipts (stopped stop o)
  timed_none stop isnt top o = record { taken = []; readings_are = refl; told_are = refl; next = λ at. absurd (isnt at) }

  timed_more : (ds : List D) (top : ℕ) (readings : List ℕ) (receipts : List Received) (c : Woven D) → told ds ≡ [] → IsTimed top readings receipts c → IsTimed top readings receipts (with_deeds ds c)
  timed_more ds top readings receipts c none timed = record {
    taken = timed.taken;
    readings_are = timed.readings_are;
    told_are = flat_map-append tick_of ds c.deeds ∙ ap (λ (l : List ℕ). l ++ told c.deeds) none ∙ timed.told_are;
    next = timed.next;
  }

  told_if : (b : Bool) (m : ℕ) → told (if b then w.ticks m else []) ≡ (if b then m ∷ [] else [])
  told_if true m = ticks_tell m
  told_if false m = refl

  timed_if : (b : Bool) (top : ℕ) (rs : List ℕ) (xs : List Received) (c d : Woven D) → IsTimed top rs xs c → IsTimed top rs xs d → IsTimed top rs xs (if b then c else d)
  timed_if true top rs xs c d first second = first
  timed_if false top rs xs c d first second = second

  timed_turn : (top r : ℕ) (rs : List ℕ) (x : Received) (xs : List Received) (c : Woven D) → IsTimed (max top (moment_of r)) rs xs c → IsTimed top (r ∷ rs) (x ∷ xs) (with_deeds (ticks_of w top r ++ arrivals_of w x) c)
  timed_turn top r rs x xs c timed = record {
    taken = r ∷ timed.taken;
    readings_are = ap (λ (l : List ℕ). r ∷ l) timed.readings_are;
    told_are =
        flat_map-append tick_of (ticks_of w top r ++ arrivals_of w x) c.deeds
        ∙ ap (λ (l : List ℕ). l ++ told c.deeds)
        (flat_map-append tick_of (ticks_of w top r) (arrivals_of w x) ∙ ap₂ (λ (l k : List ℕ). l ++ k) (told_if (nat_lt top (moment_of r)) (moment_of r)) (arrivals_none x) ∙ append-nil _)
        ∙ next_over (nat_lt top (moment_of r)) (moment_of r) (told c.deeds) (filter (nat_lt top) (filter (nat_lt (moment_of r)) (rising (map moment_of timed.taken))))
        (timed.told_are ∙ sym (over_both top (moment_of r) (rising (map moment_of timed.taken))));
    next = λ at. let more = timed.next at in omega (arith, more);
  }

  timed_waited : (until : ℕ) (later : Later D) → LaterTimed later → (top : ℕ) (rs : List ℕ) (xs : List Received) (draws : List ℕ) → IsTimed top rs xs (waited w until later top rs xs draws)
  timed_waited until later timed top [] xs draws = timed_none ForReading (λ is. absurd cc) top (record { readings = []; receipts = xs; draws = draws })
  timed_waited until later timed top (r ∷ rs) [] draws = record {
    taken = r ∷ [];
    readings_are = refl;
    told_are =
        ap told (append-nil (ticks_of w top r)) ∙ told_if (nat_lt top (moment_of r)) (moment_of r);
    next = λ at. refl;
  }
  timed_waited until later timed top (r ∷ rs) (x ∷ xs) draws =
      let o : Outside = record { readings = rs; receipts = xs; draws = draws } in
      timed_turn top r rs x xs _
      (timed_if (nat_le until (moment_of r)) (max top (moment_of r)) rs xs (later (max top (moment_of r)) o) (waited w until later (max top (moment_of r)) rs xs draws)
      (timed (max top (moment_of r)) o) (timed_waited until later timed (max top (moment_of r)) rs xs draws))

  timed_given : (g : Option (Given D)) → GivesNone tick_of g → (later : Later D) → LaterTimed later → LaterTimed (behind_given g later)
  timed_given None none later timed top o = timed_none ForDraw (λ is. absurd cc) top o
  timed_given (Some g) none later timed top o = timed_more g.deeds top o.readings o.receipts (later top (record o { draws = g.left })) none (timed top (record o { draws = g.left }))

  module _ (quiet : (l : L) (draws : List ℕ) → w.waits l ≡ None → GivesNone tick_of (w.gives l draws)) where
    timed_said : (l : L) (wait : Option ℕ) → w.waits l ≡ wait → (began : ℕ) (later : Later D) → LaterTimed later → LaterTimed (waited_or_given w l (option_map (λ m. began + m) wait) later)
    timed_said l None is began later timed top o = timed_given (w.gives l o.draws) (quiet l o.draws is) later timed top o
    timed_said l (Some wait) is began later timed top o = timed_waited (began + wait) later timed top o.readings o.receipts o.draws

    timed_line : (began version n : ℕ) (r : Result L ScriptFault) (later : ℕ → Later D) → ((v : ℕ) → LaterTimed (later v)) → LaterTimed (behind_line w began version n r later)
    timed_line began version n (Err fault) later timed top o = timed_none (AtFault n fault) (λ is. absurd cc) top o
    timed_line began version n (Ok l) later timed top o = timed_said l (w.waits l) refl began (later (w.followed version l)) (timed (w.followed version l)) top o

    timed_lines : (began version n at : ℕ) (ls : List (List ℕ)) → LaterTimed (woven_from w began version n at ls)
    timed_lines began version n at [] top o = timed_none AtEnd (λ is. absurd cc) top o
    timed_lines began version n at (l ∷ ls) top o =
        timed_line began version n (spelled_at w.spelled version n at l) (λ v. woven_from w began v (n + 1) (at + length l) ls) (λ v. timed_lines began v (n + 1) (at + length l) ls) top o

    -- of a weaving
    pub record AreTimed (readings : List ℕ) (receipts : List Received) (c : Woven D) : Type 0 where
      pub taken : List ℕ
      pub readings_are : readings ≡ taken ++ c.left.readings
      pub told_are : flat_map tick_of c.deeds ≡ moments_of taken
      pub next : c.stop ≡ ForReceive → length taken ≡ length receipts + 2

    pub timed : (octets readings : List ℕ) (receipts : List Received) (draws : List ℕ) → AreTimed readings receipts (woven w octets readings receipts draws)
    timed octets [] receipts draws = record { taken = []; readings_are = refl; told_are = refl; next = λ at. absurd cc }
    timed octets (r ∷ rs) receipts draws =
        let o : Outside = record { readings = rs; receipts = receipts; draws = draws } in
        let c : Woven D = woven_from w (moment_of r) 1 1 0 (lines_of octets) (moment_of r) o in
        let rest = timed_lines (moment_of r) 1 1 0 (lines_of octets) (moment_of r) o in record {
          taken = r ∷ rest.taken;
          readings_are = ap (λ (l : List ℕ). r ∷ l) rest.readings_are;
          told_are = flat_map-append tick_of (w.ticks (moment_of r)) c.deeds ∙ ap₂ (λ (l k : List ℕ). l ++ k) (ticks_tell (moment_of r)) rest.told_are;
          next = λ at. let more = rest.next at in omega (arith, more);
        }

-- ---- of a relay

module _ {L D : Type 0} (w : Weaves L D) (acts : List D → List Act) (s : Status) (turns : ℕ) (old new : RelayTellings) (p : Passed) (is : IsRelay w acts s turns old new p) where
  takes : (comes : Received → List D) → ((x : Received) → arrivals_of w x ≡ comes x) → TakesAsReceived p.calls comes (deeds_by w p)
  takes comes same before after x at =
      let next = takes_all w p.octets p.readings p.draws (receipts_in before) (receipts_in after) (is.due before after x at) in
      (next.0, λ y. next.1 y ∙ ap (λ (l : List D). deeds_by w p (receipts_in before) ++ (l ++ next.0)) (same y))

  module _ (tick_of : D → List ℕ) (ticks_tell : (m : ℕ) → flat_map tick_of (w.ticks m) ≡ m ∷ []) (arrivals_none : (x : Received) → flat_map tick_of (arrivals_of w x) ≡ [])
      (quiet : (l : L) (draws : List ℕ) → w.waits l ≡ None → GivesNone tick_of (w.gives l draws)) where
    abbrev Timed : List Received → Type 0
    Timed receipts = AreTimed w tick_of ticks_tell arrivals_none quiet p.readings receipts (woven w p.octets p.readings receipts p.draws)

    timed_by : (receipts : List Received) → Timed receipts
    timed_by receipts = timed w tick_of ticks_tell arrivals_none quiet p.octets p.readings receipts p.draws

    at_receive : (receipts : List Received) → (at : Timed receipts) → stop_by w p receipts ≡ ForReceive → flat_map tick_of (deeds_by w p receipts) ≡ moments_of (take (length receipts + 2) p.readings)
    at_receive receipts at due =
        let size : length receipts + 2 ≡ length at.taken = sym (at.next due) in
        let first : take (length receipts + 2) p.readings ≡ at.taken =
        ap₂ (λ (n : ℕ) (l : List ℕ). take n l) size at.readings_are ∙ take-append_seam at.taken (woven w p.octets p.readings receipts p.draws).left.readings in
        at.told_are ∙ ap moments_of (sym first)

    whole_end : (stop : Stop) → IsWholeRelay w (acts) p stop → (at : Timed (receipts_in p.calls)) → flat_map tick_of (woven_of w p).deeds ≡ moments_of p.readings
    whole_end stop whole at = at.told_are ∙ ap moments_of (sym (at.readings_are ∙ ap (λ (o : Outside). at.taken ++ o.readings) whole.left ∙ append-nil at.taken))

    broken_end : (at : Timed (receipts_in p.calls)) → (taken : List ℕ) × ((rest : List ℕ) × (p.readings ≡ taken ++ rest)) × (flat_map tick_of (woven_of w p).deeds ≡ moments_of taken)
    broken_end at = (at.taken, ((woven_of w p).left.readings, at.readings_are), at.told_are)

    ticked_end : (x : Status) → RelayEnds w acts x turns p new.left → (at : Timed (receipts_in p.calls)) → HasTicked x p.readings (flat_map tick_of (woven_of w p).deeds)
    ticked_end Done ends at = whole_end _ ends.0 at
    ticked_end (Script n fault) ends at = whole_end _ ends.0 at
    ticked_end TurnsSpent ends at = whole_end _ ends.0 at
    ticked_end Clock ends at = whole_end _ ends.0 at
    ticked_end Noise ends at = whole_end _ ends at
    ticked_end Link ends at = broken_end at
    ticked_end Read ends at = broken_end at
    ticked_end Write ends at = broken_end at
    ticked_end NoMemory ends at = broken_end at
    ticked_end Usage ends at = absurd ends
    ticked_end (Capture offset fault) ends at = absurd ends

    ticks : TicksAsRead s p.calls p.readings (λ receipts. flat_map tick_of (deeds_by w p receipts))
    ticks = record {
      at_receives = λ before after x at. at_receive (receipts_in before) (timed_by (receipts_in before)) (is.due before after x at);
      at_end = ticked_end s is.ends (timed_by (receipts_in p.calls));
    }

-- ---- of one whose calls aren't joined

plain_comes : (x : Received) → arrivals_of plain.weaves x ≡ came x
plain_comes (Came port from octets) = refl
plain_comes Nothing = refl
plain_comes Failing = refl

plain_quiet_came : (x : Received) → ticks_in (arrivals_of plain.weaves x) ≡ []
plain_quiet_came (Came port from octets) = refl
plain_quiet_came Nothing = refl
plain_quiet_came Failing = refl

pub plain_takes : (muxes : Bool) (s : Status) (turns : ℕ) (old new : RelayTellings) (p : Passed) → IsRelay plain.weaves (plain.acts muxes) s turns old new p → TakesAsReceived p.calls came (deeds_by plain.weaves p)
plain_takes muxes s turns old new p is = takes plain.weaves (plain.acts muxes) s turns old new p is came plain_comes

-- no line but `tick` gives a tick
quiet_event : (b : Bool) (e : Event) → tick_in e ≡ [] → ticks_in (if b then [] else e ∷ []) ≡ []
quiet_event true e none = refl
quiet_event false e none = ap (λ (l : List ℕ). l ++ []) none

quiet_signal : (signal : scripts.Signal) → plain.waits (lines.Signal signal) ≡ None → tick_in (Signalled (signal_of signal)) ≡ []
quiet_signal (Tick now) waits = absurd cc
quiet_signal (Psk own peer key) waits = refl
quiet_signal (Manual call secure plain roc window from_peer to_peer) waits = refl
quiet_signal (OfferSecure call noise text) waits = refl
quiet_signal (OfferSdes call noise text) waits = refl
quiet_signal (OfferMikey call peer noise text) waits = refl
quiet_signal (Answer call noise text) waits = refl
quiet_signal (Reject call) waits = refl
quiet_signal (Bye call) waits = refl

waits_with_noise : (noise : Noise304) (signal : scripts.Signal) → plain.waits (lines.Signal signal) ≡ None → plain.waits (lines.Signal (signal_with_noise noise signal)) ≡ None
waits_with_noise noise (Tick now) waits = waits
waits_with_noise noise other waits = refl

module _ {D : Type 0} (tick_of : D → List ℕ) (deeds : List Event → List D) (same : (es : List Event) → flat_map tick_of (deeds es) ≡ ticks_in es) where
  quiet_supplied : (b c : Bool) (l m : Line) (d e : List ℕ) → ticks_in (events_of l) ≡ [] → ticks_in (events_of m) ≡ []
      → GivesNone tick_of (plain.given deeds (if b then (if c then None else Some (record { line = m; draws = d })) else Some (record { line = l; draws = e })))
  quiet_supplied true true l m d e first second = tt
  quiet_supplied true false l m d e first second = same (events_of m) ∙ second
  quiet_supplied false c l m d e first second = same (events_of l) ∙ first

  quiet_line : (l : Line) (draws : List ℕ) → plain.waits l ≡ None → GivesNone tick_of (plain.gives_by deeds l draws)
  quiet_line lines.Header draws waits = same []
  quiet_line lines.HeaderTwo draws waits = same []
  quiet_line (lines.Datagram port from octets) draws waits = same (events_of (lines.Datagram port from octets))
  quiet_line (lines.DatagramAt now port from octets) draws waits = same (events_of (lines.Datagram port from octets))
  quiet_line (lines.Signal signal) draws waits =
      quiet_supplied _ _ (lines.Signal signal) _ _ draws (quiet_event (signal_lacks_noise signal) (Signalled (signal_of signal)) (quiet_signal signal waits))
      (quiet_event (signal_lacks_noise (signal_with_noise _ signal)) (Signalled (signal_of (signal_with_noise _ signal))) (quiet_signal (signal_with_noise _ signal) (waits_with_noise _ signal waits)))

-- the ticks of a line that is a tick, and of all that happens
ticks_tell : (moment : ℕ) → ticks_in (plain.ticks moment) ≡ moment ∷ []
ticks_tell moment = refl

pub plain_ticks : (muxes : Bool) (s : Status) (turns : ℕ) (old new : RelayTellings) (p : Passed) → IsRelay plain.weaves (plain.acts muxes) s turns old new p
    → TicksAsRead s p.calls p.readings (λ receipts. ticks_in (deeds_by plain.weaves p receipts))
plain_ticks muxes s turns old new p is = ticks plain.weaves (plain.acts muxes) s turns old new p is tick_in ticks_tell plain_quiet_came (quiet_line tick_in (λ events. events) (λ es. refl))

-- ---- of one whose calls may be joined

joined_comes : (x : Received) → arrivals_of joined.weaves x ≡ came_to_bridge x
joined_comes (Came port from octets) = refl
joined_comes Nothing = refl
joined_comes Failing = refl

joined_quiet_came : (x : Received) → ticks_said (arrivals_of joined.weaves x) ≡ []
joined_quiet_came (Came port from octets) = refl
joined_quiet_came Nothing = refl
joined_quiet_came Failing = refl

pub joined_takes : (s : Status) (turns : ℕ) (old new : RelayTellings) (p : Passed) → IsRelay joined.weaves joined.acts s turns old new p → TakesAsReceived p.calls came_to_bridge (deeds_by joined.weaves p)
joined_takes s turns old new p is = takes joined.weaves joined.acts s turns old new p is came_to_bridge joined_comes

joined_ticks_tell : (moment : ℕ) → ticks_said (joined.ticks moment) ≡ moment ∷ []
joined_ticks_tell moment = refl

joined_quiet : (l : BridgeLine) (draws : List ℕ) → joined.waits l ≡ None → GivesNone tick_said (joined.gives l draws)
joined_quiet (bridge_lines.Script l) draws waits = quiet_line tick_said joined.happen_all (flat_map-map tick_said Happens) l draws waits
joined_quiet (bridge_lines.Join first second) draws waits = refl
joined_quiet (bridge_lines.Part call) draws waits = refl

pub joined_ticks : (s : Status) (turns : ℕ) (old new : RelayTellings) (p : Passed) → IsRelay joined.weaves joined.acts s turns old new p
    → TicksAsRead s p.calls p.readings (λ receipts. ticks_said (deeds_by joined.weaves p receipts))
joined_ticks s turns old new p is = ticks joined.weaves joined.acts s turns old new p is tick_said joined_ticks_tell joined_quiet_came joined_quiet
