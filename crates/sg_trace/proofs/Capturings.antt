-- What holds of runs whose script may end in a capture.
use Rattle.std.proofs.Common.{◌≡◌, ◌+◌, ◌-◌, ◌<◌, ◌^◌, ℕ, Bool, true, false, ltb, List, [], ◌∷◌, ◌++◌, length, map, take, drop, Option, Some, None, Result, Ok, Err, refl, sym, ap, ◌∙◌, inl, inr, arith, subst, append_assoc, length-drop, length-take}
use Rattle.std.specs.Prelude.{max, min, codes, nat_lt, ◌&&◌, nat_le}
use Rattle.std.specs.List.{AllByRecursion}
use Rattle.std.specs.Str.{bytes_eq}
use Rattle.std.proofs.lemmas.List.Elements.{recursion_from_All}
use Rattle.std.proofs.lemmas.Slice.Eq.{bytes_eq-Decides}
use Rattle.sg_gateway.specs.Octets.{as_octets}
use Rattle.sg_gateway.specs.Signals.{Tick}
use Rattle.sg_pcap.specs.Frames.{Framed, Passed, Skip, frame_of}
use Rattle.sg_pcap.specs.Frames as frames
use Rattle.sg_pcap.specs.Kinds.{IsFrame}
use Rattle.sg_pcap.specs.Readings.{CapturesAreRead}
use Rattle.sg_pcap.specs.Written.{FitsHeader, Header, moment_taken}
use Rattle.sg_trace.proofs.Common.{AtCapture, CaptureFault, Captured, Captures, Datagram, Event, Form, Later, Line, LinkType, Outside, Replays, ScriptFault}
use Rattle.sg_trace.proofs.Common.{Signalled, Stop, Supplied, Trace, Version, World, after_line, append-nil, begins_capture, capture_of, cases_lt, cond-false}
use Rattle.sg_trace.proofs.Common.{cond-true, drawing, empty, faulty, handled_as, le-ltb, line_at, lines_of, lt-ltb, output_from, replayed, step, supplied}
use Rattle.sg_trace.proofs.Common.{take-append-drop, take_all, ticks_at, trace_from, version_after}
use Rattle.sg_trace.proofs.Traces.{output_from-append}
use Rattle.sg_trace.specs.CaptureHolds.{AreMoments, CaptureHolds, CapturesNone, ComesNext, IsGiven, IsMoment, IsReplayed, IsSince, Long, Nothing, Short, Tells, first_millis}
use Rattle.sg_trace.specs.Captured.{CaptureTrace, Happens, InCapture, Occurrence, after_script, capture_occurs, captured, frame_occurs, moment_in, output_of, records_occur, script_alone, script_of, then_capture}

-- ---- records

module _ (last first : ℕ) where
  -- the greatest moment behind these records
  abbrev top_after : ℕ → List Captured → ℕ
  top_after top [] = top
  top_after top (r ∷ rs) = top_after (max top (moment_in last first r.millis)) rs

  abbrev one : ℕ → ℕ → Captured → List Occurrence
  one top number r = map Happens (ticks_at top (moment_in last first r.millis)) ++ frame_occurs number (frame_of r.frame)

  last_one : (before : List Captured) (r : Captured) (top number : ℕ) → records_occur last first top number (before ++ r ∷ []) ≡ records_occur last first top number before ++ one (top_after top before) (number + length before) r
  last_one [] r top number = append-nil (one top number r) ∙ ap (λ (n : ℕ). one top n r) (omega arith)
  last_one (x ∷ before) r top number =
      ap (λ (os : List Occurrence). one top number x ++ os) (last_one before r (max top (moment_in last first x.millis)) (number + 1))
      ∙ sym (append_assoc (one top number x) (records_occur last first (max top (moment_in last first x.millis)) (number + 1) before) (one (top_after (max top (moment_in last first x.millis)) before) (number + 1 + length before) r))
      ∙ ap (λ (n : ℕ). one top number x ++ records_occur last first (max top (moment_in last first x.millis)) (number + 1) before ++ one (top_after (max top (moment_in last first x.millis)) before) n r) (omega arith)

  abbrev moments : List Captured → List ℕ
  moments before = map (λ r. moment_in last first r.millis) before

  above : (before : List Captured) (top now : ℕ) → AllByRecursion (λ moment. moment < now) (top ∷ moments before) → top_after top before < now
  above [] top now all = all.0
  above (x ∷ before) top now all =
      let a = all.0 in
      let b = all.1.0 in
      above before (max top (moment_in last first x.millis)) now ((let c : max top (moment_in last first x.millis) < now = omega (arith, a, b) in c), all.1.1)

  below : (before : List Captured) (top now : ℕ) → top_after top before < now → AllByRecursion (λ moment. moment < now) (top ∷ moments before)
  below [] top now less = (less, tt)
  below (x ∷ before) top now less =
      let all = below before (max top (moment_in last first x.millis)) now less in
      let a = all.0 in
      ((let b : top < now = omega (arith, a) in b), ((let c : moment_in last first x.millis < now = omega (arith, a) in c), all.1))

ticks_above : (top now : ℕ) → top < now → map Happens (ticks_at top now) ≡ Happens (Signalled (Tick now)) ∷ []
ticks_above top now less = ap (map Happens) (cond-true (ltb top now) _ _ (lt-ltb top now less))

ticks_below : (top now : ℕ) → ¬ (top < now) → map Happens (ticks_at top now) ≡ []
ticks_below top now more = ap (map Happens) (cond-false (ltb top now) _ _ (le-ltb top now (elim (cases_lt top now) [ inl less ↦ absurd (more less) | inr least ↦ least ])))

-- the moment is as long behind the script's last one as the record is behind the first
is_moment : (last first millis : ℕ) → IsMoment last first millis (moment_in last first millis)
is_moment last first millis = elim (cases_lt millis first) [
  | inl less ↦ since 0 (inr (less, refl)) (omega (arith, less))
  | inr least ↦ since (millis - first) (inl (omega (arith, least))) refl
]
  where
    since : (n : ℕ) → IsSince first millis n → millis - first ≡ n → IsMoment last first millis (moment_in last first millis)
    since n is same = elim (cases_lt 2085978495999 (last + n)) [
      | inl over ↦ (n, is, inr (over, (let e : min (last + (millis - first)) 2085978495999 ≡ 2085978495999 = omega (arith, over, same) in e)))
      | inr within ↦ (n, is, inl (within, (let e : min (last + (millis - first)) 2085978495999 ≡ last + n = omega (arith, within, same) in e)))
    ]

are_moments : (last first : ℕ) (rs : List Captured) → AreMoments last first rs (moments last first rs)
are_moments last first [] = refl
are_moments last first (r ∷ rs) = (moment_in last first r.millis, moments last first rs, refl, is_moment last first r.millis, are_moments last first rs)

-- what a frame gives is what occurs of it
is_given : (number : ℕ) (m : Framed) → IsGiven number m (frame_occurs number m)
is_given number Passed = Nothing
is_given number (Skip cause) = Tells cause
is_given number (frames.Datagram port from octets) = elim (cases_lt 4352 (length octets)) [
  | inl over ↦
      subst (λ (o : List ℕ). IsGiven number (frames.Datagram port from o) (Happens (Datagram port from (as_octets (take 4352 octets))) ∷ [])) (take-append-drop 4352 octets)
      (Long port from (take 4352 octets) (drop 4352 octets) (let n = length-take 4352 octets in omega (arith, n, over)))
  | inr within ↦
      subst (λ (o : List ℕ). IsGiven number (frames.Datagram port from octets) (Happens (Datagram port from (as_octets o)) ∷ [])) (sym (take_all 4352 octets within)) (Short port from octets within)
]

occurs_all : (last : ℕ) (rs : List Captured) → capture_occurs last rs ≡ records_occur last (first_millis rs) last 1 rs
occurs_all last [] = refl
occurs_all last (r ∷ rs) = refl

-- the first record's moment is another list's where that begins with it
first_same : (last : ℕ) (before : List Captured) (r : Captured) → capture_occurs last before ≡ records_occur last (first_millis (before ++ r ∷ [])) last 1 before
first_same last [] r = refl
first_same last (x ∷ before) r = refl

comes_next : ((frame : List ℕ) (m : Framed) → IsFrame frame m → frame_of frame ≡ m) → (last : ℕ) (before : List Captured) (r : Captured) (m : Framed) → IsFrame r.frame m → ComesNext last before r m
comes_next read last before r m is =
    record {
      at = moment_in last (first_millis (before ++ r ∷ [])) r.millis;
      when = is_moment last (first_millis (before ++ r ∷ [])) r.millis;
      moments = moments last (first_millis (before ++ r ∷ [])) before;
      earlier = are_moments last (first_millis (before ++ r ∷ [])) before;
      gives = frame_occurs (1 + length before) m;
      given = is_given (1 + length before) m;
      ticks = map Happens (ticks_at (top_after last (first_millis (before ++ r ∷ [])) last before) (moment_in last (first_millis (before ++ r ∷ [])) r.millis));
      is =
          occurs_all last (before ++ r ∷ []) ∙ last_one last (first_millis (before ++ r ∷ [])) before r last 1
          ∙ (λ i. sym (first_same last before r) i
          ++ (map Happens (ticks_at (top_after last (first_millis (before ++ r ∷ [])) last before) (moment_in last (first_millis (before ++ r ∷ [])) r.millis))
          ++ ap (frame_occurs (1 + length before)) (read r.frame m is) i));
      later = λ all. ticks_above _ _ (above last (first_millis (before ++ r ∷ [])) before last (moment_in last (first_millis (before ++ r ∷ [])) r.millis) all);
      other = λ none. ticks_below _ _ (λ less. none (below last (first_millis (before ++ r ∷ [])) before last (moment_in last (first_millis (before ++ r ∷ [])) r.millis) less));
    }

-- ---- a script without a capture

abbrev NotCapture : List ℕ → Type 0
NotCapture line = ¬ (line ≡ codes "capture\n")

begins_not : (n at : ℕ) (l : List ℕ) → NotCapture l → begins_capture Captures n at l ≡ false
begins_not n at l isnt = go (bytes_eq l (codes "capture\n")) refl
  where
    and_false : (b : Bool) → (b && false) ≡ false
    and_false true = refl
    and_false false = refl

    go : (b : Bool) → bytes_eq l (codes "capture\n") ≡ b → begins_capture Captures n at l ≡ false
    go true is = absurd (isnt ((bytes_eq-Decides l (codes "capture\n")).0 is))
    go false is = ap (λ (b : Bool). (nat_lt 1 n && b) && nat_le (at + length l) (2 ^ 30)) is ∙ ap (λ (b : Bool). b && nat_le (at + length l) (2 ^ 30)) (and_false (nat_lt 1 n))

line_alike : (version n : ℕ) (r : Result Line ScriptFault) (a b : ℕ → Later) (top : ℕ) (o : Outside) → ((v top : ℕ) (o : Outside) → a v top o ≡ b v top o) → after_line Captures version n r a top o ≡ after_line Replays version n r b top o
line_alike version n (Err fault) a b top o same = refl
line_alike version n (Ok l) a b top o same = λ i. after_line Replays version n (Ok l) (λ v top o. same v top o i) top o

lines_alike : (ls : List (List ℕ)) → AllByRecursion NotCapture ls → (version n at top : ℕ) (o : Outside) → trace_from Captures version n at ls top o ≡ trace_from Replays version n at ls top o
lines_alike [] none version n at top o = refl
lines_alike (l ∷ ls) none version n at top o =
    cond-false (begins_capture Captures n at l) _ _ (begins_not n at l none.0)
    ∙ line_alike version n (line_at version n at l) (λ v. trace_from Captures v (n + 1) (at + length l) ls) (λ v. trace_from Replays v (n + 1) (at + length l) ls) top o
    (λ v top o. lines_alike ls none.1 v (n + 1) (at + length l) top o)

-- a replay stops at no capture
stops_elsewhere : (t : Trace) (octets : List ℕ) (s : Stop) → ((at : ℕ) → ¬ (s ≡ AtCapture at)) → after_script octets t s ≡ script_alone t
stops_elsewhere t octets (AtCapture at) isnt = absurd (isnt at refl)
stops_elsewhere t octets other isnt = refl

abbrev NoCapture : Trace → Type 0
NoCapture t = (at : ℕ) → ¬ (t.stop ≡ AtCapture at)

supplied_none : (s : Option Supplied) (later : Later) (top : ℕ) (o : Outside) → ((top : ℕ) (o : Outside) → NoCapture (later top o)) → NoCapture (handled_as s later top o)
supplied_none None later top o none = λ a is. cc
supplied_none (Some s) later top o none = none top (record o { draws = s.draws })

line_none : (version n : ℕ) (r : Result Line ScriptFault) (later : ℕ → Later) (top : ℕ) (o : Outside) → ((v top : ℕ) (o : Outside) → NoCapture (later v top o)) → NoCapture (after_line Replays version n r later top o)
line_none version n (Err fault) later top o none = λ a is. cc
line_none version n (Ok l) later top o none = supplied_none (supplied o.draws l) (later (version_after version l)) top o (none (version_after version l))

replays_none : (ls : List (List ℕ)) (version n at top : ℕ) (o : Outside) → NoCapture (trace_from Replays version n at ls top o)
replays_none [] version n at top o = λ a is. cc
replays_none (l ∷ ls) version n at top o =
    line_none version n (line_at version n at l) (λ v. trace_from Replays v (n + 1) (at + length l) ls) top o (λ v top o. replays_none ls v (n + 1) (at + length l) top o)

pub happens_output : (w : World) (es : List Event) → output_of w (map Happens es) ≡ output_from w es
happens_output w [] = refl
happens_output w (e ∷ es) = ap (λ (l : List ℕ). output_from w (e ∷ []) ++ l) (happens_output (step w e).world es) ∙ sym (output_from-append w (e ∷ []) es)

is_replayed : (octets draws : List ℕ) → CapturesNone octets → IsReplayed octets draws
is_replayed octets draws none =
    let script : script_of octets draws ≡ replayed octets draws = lines_alike (lines_of octets) (recursion_from_All NotCapture (lines_of octets) none) 1 1 0 0 (drawing draws) in
    let all : captured octets draws ≡ script_alone (replayed octets draws) =
    ap (λ (t : Trace). after_script octets t t.stop) script
    ∙ stops_elsewhere (replayed octets draws) octets (replayed octets draws).stop (replays_none (lines_of octets) 1 1 0 0 (drawing draws)) in
    record {
      occurs = ap (λ (t : CaptureTrace). t.occurrences) all;
      stop = ap (λ (t : CaptureTrace). t.stop) all;
      left = ap (λ (t : CaptureTrace). t.left) all;
      text = ap (λ (t : CaptureTrace). output_of empty t.occurrences) all ∙ happens_output empty (replayed octets draws).events;
    }

-- ---- a capture that was written

pub holds : ((frame : List ℕ) (m : Framed) → IsFrame frame m → frame_of frame ≡ m)
    → ((most : ℕ) (form : Form) (h : Header) → FitsHeader h → CapturesAreRead most form h)
    → (octets draws : List ℕ) → CaptureHolds octets draws
holds frames captures octets draws = record {
  whole = λ at form h ts stop behind inside most fits version link fit. (
      let size = length-drop at octets in
      let written = ap (length {A = ℕ}) behind in
      let read : capture_of (2 ^ 30 - at) (drop at octets) ≡ record { records = map (moment_taken form) ts; fault = None } =
      ap (capture_of (2 ^ 30 - at)) behind ∙ (captures (2 ^ 30 - at) form h fits).whole ts version link fit (omega (arith, size, written, most)) in
      let all : captured octets draws ≡ then_capture (script_of octets draws) (record { records = map (moment_taken form) ts; fault = None }) =
      ap (after_script octets (script_of octets draws)) stop ∙ ap (then_capture (script_of octets draws)) read in
      record { occurs = ap (λ (t : CaptureTrace). t.occurrences) all; stop = ap (λ (t : CaptureTrace). t.stop) all });
  version = λ at form h rest stop behind counts fits isnt. faulty_so at (4, Version) stop
      (ap (capture_of (2 ^ 30 - at)) behind ∙ (captures (2 ^ 30 - at) form h fits).version rest (omega (arith, counts)) isnt);
  link = λ at form h rest stop behind counts fits version isnt. faulty_so at (20, LinkType) stop
      (ap (capture_of (2 ^ 30 - at)) behind ∙ (captures (2 ^ 30 - at) form h fits).link rest (omega (arith, counts)) version isnt);
  none = λ last. refl;
  next = comes_next frames;
  replayed = is_replayed octets draws;
}
  where
    faulty_so : (at : ℕ) (fault : ℕ × CaptureFault) → (script_of octets draws).stop ≡ AtCapture at → capture_of (2 ^ 30 - at) (drop at octets) ≡ faulty fault → (captured octets draws).stop ≡ InCapture (Some fault)
    faulty_so at fault stop read = ap (λ (t : CaptureTrace). t.stop) (ap (after_script octets (script_of octets draws)) stop ∙ ap (then_capture (script_of octets draws)) read)
