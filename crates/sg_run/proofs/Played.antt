-- A relay plays the lines of its script, and its ticks and what it receives stand between them.
use Rattle.std.proofs.Common.{◌≡◌, ◌+◌, ℕ, List, [], ◌∷◌, ◌++◌, length, max, filter, not, nat_lt, nat_le, Bool, true, false, Option, Some, None, Result, Ok, Err, refl, sym, ap, ap₂, ◌∙◌, subst, append_assoc, append-nil, if◌then◌else◌, option_map}
use Rattle.std.proofs.lemmas.List.Elements.{filter-append}
use Rattle.sg_base.specs.declared.faults.ScriptFault.{ScriptFault}
use Rattle.sg_bridge.specs.Bridge as bridges
use Rattle.sg_bridge.specs.Bridge.{bridge_trace, happens_as}
use Rattle.sg_edge.specs.Links.{Received}
use Rattle.sg_gateway.specs.Drawn.{Supplied, supplied}
use Rattle.sg_gateway.specs.Step.{Event}
use Rattle.sg_lines.specs.ScriptLines.{lines_of}
use Rattle.sg_lines.specs.declared.lines.Line.{Line}
use Rattle.sg_lines.specs.declared.lines.Line.TheVariants as lines
use Rattle.sg_lines.specs.declared.lines.Signal.TheVariants.{Tick}
use Rattle.sg_pairs.specs.Bridged.{Said}
use Rattle.sg_pairs.specs.declared.lines.BridgeLine.{BridgeLine}
use Rattle.sg_pairs.specs.declared.lines.BridgeLine.TheVariants as bridge_lines
use Rattle.sg_playback.proofs.Replays.{replay_so}
use Rattle.sg_playback.specs.Replay.{given_by}
use Rattle.sg_playback.specs.Replay as replays
use Rattle.sg_relay.specs.Asked.{Act, receipts_in}
use Rattle.sg_relay.specs.Joined as joined
use Rattle.sg_relay.specs.Plain as plain
use Rattle.sg_relay.specs.Relay.{IsRelay, Passed, RelayEnds, RelayTellings, deeds_by, woven_of}
use Rattle.sg_relay.specs.Weaving.{Later, Weaves, Woven, behind_given, behind_line, ticks_of, waited, waited_or_given, woven, woven_from}
use Rattle.sg_run.specs.Arrived.{HasPlayed, is_tick, nothings, said_without_ticks, says_tick, without_ticks}
use Rattle.sg_trace.specs.Course.{Course, Given, Ways, course, course_from}
use Rattle.sg_trace.specs.Course as courses
use Rattle.sg_trace.specs.Trace.{AtEnd, AtFault, ForDraw, ForReading, ForReceive, Stop, Trace, moment_of, replayed, spelled_at}
use Rattle.sg_trace.specs.declared.status.Status.{Status}
use Rattle.sg_trace.specs.declared.status.Status.TheVariants.{Done, Script}

-- ---- the lines of one that receives nothing

-- a run that stops so has come to the end of its lines, or to one outside the grammar
abbrev IsEnd : Stop → Type 0
IsEnd AtEnd = Unit {0}
IsEnd (AtFault n fault) = Unit {0}
IsEnd other = ⊥

module _ {L D : Type 0} (w : Weaves L D) (gives : L → List ℕ → Option (Given D)) (keep : D → Bool) where
  abbrev kept : List D → List D
  kept ds = filter keep ds

  -- The same lines are played each at once.
  abbrev at_once : Ways L D
  at_once = record { spelled = w.spelled; followed = w.followed; is_last = λ l. false; gives = gives }

  -- Of a run that stops so these are the deeds that are kept of what is played, or the first of them.
  record IsPlayed (stop : Stop) (deeds played : List D) : Type 0 where
    some : (rest : List D) × (kept played ≡ kept deeds ++ rest)
    all : IsEnd stop → kept deeds ≡ kept played

  -- where the one receives something, and the other nothing
  abbrev Plays : (List Received → Woven D) → List Received → List D → Type 0
  Plays f xs played = IsPlayed (f xs).stop (f (nothings xs)).deeds played

  abbrev LaterPlays : Later D → (List ℕ → Course D) → Type 0
  LaterPlays later next = (top : ℕ) (rs : List ℕ) (xs : List Received) (draws : List ℕ) → Plays (λ xs. later top (record { readings = rs; receipts = xs; draws = draws })) xs (next draws).deeds

  -- what a line gives here, and there
  abbrev Matches : Option (Given D) → Option (Given D) → Type 0
  Matches None played = Unit {0}
  Matches (Some g) None = ⊥
  Matches (Some g) (Some h) = (kept g.deeds ≡ kept h.deeds) × (g.left ≡ h.left)

  plays_none : (stop : Stop) → (IsEnd stop → ⊥) → (played : List D) → IsPlayed stop [] played
  plays_none stop isnt played = record { some = (kept played, refl); all = λ end. absurd (isnt end) }

  plays_end : (stop : Stop) → IsPlayed stop [] []
  plays_end stop = record { some = ([], refl); all = λ end. refl }

  plays_more : (stop : Stop) (ds es deeds played : List D) → kept ds ≡ kept es → IsPlayed stop deeds played → IsPlayed stop (ds ++ deeds) (es ++ played)
  plays_more stop ds es deeds played same plays = record {
    some = (
      plays.some.0,
      filter-append keep es played ∙ ap₂ (λ (l m : List D). l ++ m) (sym same) plays.some.1 ∙ sym (append_assoc (kept ds) (kept deeds) plays.some.0)
          ∙ ap (λ (l : List D). l ++ plays.some.0) (sym (filter-append keep ds deeds)),
    );
    all = λ end. filter-append keep ds deeds ∙ ap₂ (λ (l m : List D). l ++ m) same (plays.all end) ∙ sym (filter-append keep es played);
  }

  plays_if : (b : Bool) (f g : List Received → Woven D) (xs : List Received) (played : List D) → Plays f xs played → Plays g xs played → Plays (λ xs. if b then f xs else g xs) xs played
  plays_if true f g xs played first second = first
  plays_if false f g xs played first second = second

  plays_given : (g h : Option (Given D)) → Matches g h → (later : Later D) (next : List ℕ → Course D) → LaterPlays later next → (top : ℕ) (rs : List ℕ) (xs : List Received) (draws : List ℕ)
      → Plays (λ xs. behind_given g later top (record { readings = rs; receipts = xs; draws = draws })) xs (courses.behind_given h draws next).deeds
  plays_given None h matches later next plays top rs xs draws = plays_none ForDraw (λ end. end) _
  plays_given (Some g) None matches later next plays top rs xs draws = absurd matches
  plays_given (Some g) (Some h) matches later next plays top rs xs draws =
      plays_more _ g.deeds h.deeds _ (next h.left).deeds matches.0
      (subst (λ (left : List ℕ). Plays (λ xs. later top (record { readings = rs; receipts = xs; draws = g.left })) xs (next left).deeds) matches.1 (plays top rs xs g.left))

  module _ (ticks_out : (m : ℕ) → kept (w.ticks m) ≡ []) where
    ticks_if : (b : Bool) (m : ℕ) → kept (if b then w.ticks m else []) ≡ []
    ticks_if true m = ticks_out m
    ticks_if false m = refl

    plays_waited : (until : ℕ) (later : Later D) (next : List ℕ → Course D) → LaterPlays later next → (top : ℕ) (rs : List ℕ) (xs : List Received) (draws : List ℕ)
        → Plays (λ xs. waited w until later top rs xs draws) xs (next draws).deeds
    plays_waited until later next plays top [] xs draws = plays_none ForReading (λ end. end) _
    plays_waited until later next plays top (r ∷ rs) [] draws =
        plays_more ForReceive (ticks_of w top r) [] [] (next draws).deeds (ticks_if (nat_lt top (moment_of r)) (moment_of r)) (plays_none ForReceive (λ end. end) _)
    plays_waited until later next plays top (r ∷ rs) (x ∷ xs) draws =
        plays_more _ (ticks_of w top r ++ []) [] _ (next draws).deeds (ap kept (append-nil (ticks_of w top r)) ∙ ticks_if (nat_lt top (moment_of r)) (moment_of r))
        (plays_if (nat_le until (moment_of r)) (λ xs. later (max top (moment_of r)) (record { readings = rs; receipts = xs; draws = draws })) (λ xs. waited w until later (max top (moment_of r)) rs xs draws) xs (next draws).deeds
        (plays (max top (moment_of r)) rs xs draws) (plays_waited until later next plays (max top (moment_of r)) rs xs draws))

    -- a `tick` line, played at once, gives ticks alone
    abbrev TicksAlone : Option (Given D) → List ℕ → Type 0
    TicksAlone None draws = ⊥
    TicksAlone (Some g) draws = (kept g.deeds ≡ []) × (g.left ≡ draws)

    module _ (lines_match : (l : L) (draws : List ℕ) → w.waits l ≡ None → Matches (w.gives l draws) (gives l draws))
        (ticks_alone : (l : L) (wait : ℕ) (draws : List ℕ) → w.waits l ≡ Some wait → TicksAlone (gives l draws) draws) where
      plays_tick : (g : Option (Given D)) (stop : Stop) (deeds : List D) (draws : List ℕ) (next : List ℕ → Course D) → TicksAlone g draws → IsPlayed stop deeds (next draws).deeds
          → IsPlayed stop deeds (courses.behind_given g draws next).deeds
      plays_tick None stop deeds draws next alone plays = absurd alone
      plays_tick (Some g) stop deeds draws next alone plays =
          plays_more stop [] g.deeds deeds (next g.left).deeds (sym alone.0) (subst (λ (left : List ℕ). IsPlayed stop deeds (next left).deeds) (sym alone.1) plays)

      plays_said : (l : L) (wait : Option ℕ) → w.waits l ≡ wait → (began : ℕ) (later : Later D) (next : List ℕ → Course D) → LaterPlays later next → (top : ℕ) (rs : List ℕ) (xs : List Received) (draws : List ℕ)
          → Plays (λ xs. waited_or_given w l (option_map (λ m. began + m) wait) later top (record { readings = rs; receipts = xs; draws = draws })) xs (courses.behind_given (gives l draws) draws next).deeds
      plays_said l None is began later next plays top rs xs draws = plays_given (w.gives l draws) (gives l draws) (lines_match l draws is) later next plays top rs xs draws
      plays_said l (Some wait) is began later next plays top rs xs draws =
          plays_tick (gives l draws) _ _ draws next (ticks_alone l wait draws is) (plays_waited (began + wait) later next plays top rs xs draws)

      plays_line : (began version n end : ℕ) (r : Result L ScriptFault) (later : ℕ → Later D) (next : ℕ → List ℕ → Course D) → ((v : ℕ) → LaterPlays (later v) (next v))
          → LaterPlays (behind_line w began version n r later) (courses.behind_line at_once version n end r next)
      plays_line began version n end (Err fault) later next plays top rs xs draws = plays_end (AtFault n fault)
      plays_line began version n end (Ok l) later next plays top rs xs draws = plays_said l (w.waits l) refl began (later (w.followed version l)) (next (w.followed version l)) (plays (w.followed version l)) top rs xs draws

      plays_lines : (began version n at : ℕ) (ls : List (List ℕ)) → LaterPlays (woven_from w began version n at ls) (course_from at_once version n at ls)
      plays_lines began version n at [] top rs xs draws = plays_end AtEnd
      plays_lines began version n at (l ∷ ls) top rs xs draws =
          plays_line began version n (at + length l) (spelled_at w.spelled version n at l) (λ v. woven_from w began v (n + 1) (at + length l) ls) (λ v. course_from at_once v (n + 1) (at + length l) ls)
          (λ v. plays_lines began v (n + 1) (at + length l) ls) top rs xs draws

      plays_woven : (octets readings : List ℕ) (xs : List Received) (draws : List ℕ) → Plays (λ xs. woven w octets readings xs draws) xs (course at_once octets draws).deeds
      plays_woven octets [] xs draws = plays_none ForReading (λ end. end) _
      plays_woven octets (r ∷ rs) xs draws =
          plays_more _ (w.ticks (moment_of r)) [] _ (course at_once octets draws).deeds (ticks_out (moment_of r)) (plays_lines (moment_of r) 1 1 0 (lines_of octets) (moment_of r) rs xs draws)

      -- so of a relay
      module _ (acts : List D → List Act) (s : Status) (turns : ℕ) (old new : RelayTellings) (p : Passed) (is : IsRelay w acts s turns old new p) where
        played_end : (x : Status) → RelayEnds w acts x turns p new.left → (had all : List D) → IsPlayed (woven_of w p).stop had all → HasPlayed x (kept had) (kept all)
        played_end Done ends had all plays = plays.all (subst IsEnd (sym ends.0.stops) tt)
        played_end (Script n fault) ends had all plays = plays.all (subst IsEnd (sym ends.0.stops) tt)
        played_end other ends had all plays = plays.some

        played : HasPlayed s (kept (deeds_by w p (nothings (receipts_in p.calls)))) (kept (course at_once p.octets p.draws).deeds)
        played = played_end s is.ends (deeds_by w p (nothings (receipts_in p.calls))) (course at_once p.octets p.draws).deeds (plays_woven p.octets p.readings (receipts_in p.calls) p.draws)

-- ---- of one whose calls aren't joined

-- whether an event is no tick
abbrev stays : Event → Bool
stays e = not (is_tick e)

plain_ticks_out : (moment : ℕ) → without_ticks (plain.ticks moment) ≡ []
plain_ticks_out moment = refl

same_given : (s : Option Supplied) → Matches plain.weaves replays.gives stays (plain.given (λ events. events) s) (given_by s)
same_given None = tt
same_given (Some s) = (refl, refl)

plain_matches : (l : Line) (draws : List ℕ) → plain.waits l ≡ None → Matches plain.weaves replays.gives stays (plain.gives l draws) (replays.gives l draws)
plain_matches lines.Header draws waits = same_given (supplied draws lines.Header)
plain_matches lines.HeaderTwo draws waits = same_given (supplied draws lines.HeaderTwo)
plain_matches (lines.Datagram port from octets) draws waits = same_given (supplied draws (lines.Datagram port from octets))
plain_matches (lines.DatagramAt now port from octets) draws waits = (refl, refl)
plain_matches (lines.Signal signal) draws waits = same_given (supplied draws (lines.Signal signal))

plain_alone : (l : Line) (wait : ℕ) (draws : List ℕ) → plain.waits l ≡ Some wait → TicksAlone plain.weaves replays.gives stays plain_ticks_out (replays.gives l draws) draws
plain_alone (lines.Signal (Tick now)) wait draws waits = (refl, refl)
plain_alone other wait draws waits = absurd cc

pub plain_plays : (muxes : Bool) (s : Status) (turns : ℕ) (old new : RelayTellings) (p : Passed) → IsRelay plain.weaves (plain.acts muxes) s turns old new p
    → HasPlayed s (without_ticks (deeds_by plain.weaves p (nothings (receipts_in p.calls)))) (without_ticks (replayed p.octets p.draws).events)
plain_plays muxes s turns old new p is =
    subst (λ (es : List Event). HasPlayed s (without_ticks (deeds_by plain.weaves p (nothings (receipts_in p.calls)))) (without_ticks es)) (ap (λ (t : Trace). t.events) (replay_so p.octets p.draws))
    (played plain.weaves replays.gives stays plain_ticks_out plain_matches plain_alone (plain.acts muxes) s turns old new p is)

-- ---- of one whose calls may be joined

abbrev said_stays : Said → Bool
said_stays s = not (says_tick s)

joined_ticks_out : (moment : ℕ) → said_without_ticks (joined.ticks moment) ≡ []
joined_ticks_out moment = refl

same_happens : (s : Option Supplied) → Matches joined.weaves bridges.gives said_stays (plain.given joined.happen_all s) (happens_as s)
same_happens None = tt
same_happens (Some s) = (refl, refl)

joined_matches : (l : BridgeLine) (draws : List ℕ) → joined.waits l ≡ None → Matches joined.weaves bridges.gives said_stays (joined.gives l draws) (bridges.gives l draws)
joined_matches (bridge_lines.Script lines.Header) draws waits = same_happens (supplied draws lines.Header)
joined_matches (bridge_lines.Script lines.HeaderTwo) draws waits = same_happens (supplied draws lines.HeaderTwo)
joined_matches (bridge_lines.Script (lines.Datagram port from octets)) draws waits = same_happens (supplied draws (lines.Datagram port from octets))
joined_matches (bridge_lines.Script (lines.DatagramAt now port from octets)) draws waits = (refl, refl)
joined_matches (bridge_lines.Script (lines.Signal signal)) draws waits = same_happens (supplied draws (lines.Signal signal))
joined_matches (bridge_lines.Join first second) draws waits = (refl, refl)
joined_matches (bridge_lines.Part call) draws waits = (refl, refl)

joined_alone : (l : BridgeLine) (wait : ℕ) (draws : List ℕ) → joined.waits l ≡ Some wait → TicksAlone joined.weaves bridges.gives said_stays joined_ticks_out (bridges.gives l draws) draws
joined_alone (bridge_lines.Script (lines.Signal (Tick now))) wait draws waits = (refl, refl)
joined_alone other wait draws waits = absurd cc

pub joined_plays : (s : Status) (turns : ℕ) (old new : RelayTellings) (p : Passed) → IsRelay joined.weaves joined.acts s turns old new p
    → HasPlayed s (said_without_ticks (deeds_by joined.weaves p (nothings (receipts_in p.calls)))) (said_without_ticks (bridge_trace p.octets p.draws).deeds)
joined_plays s turns old new p is = played joined.weaves bridges.gives said_stays joined_ticks_out joined_matches joined_alone joined.acts s turns old new p is
