-- The script of a run is the course of its lines, and how it ends is how the loop does.
use Rattle.std.proofs.Common.{◌≡◌, ◌+◌, ℕ, Bool, true, false, cond, List, [], ◌∷◌, ◌++◌, length, map, Result, Ok, Err, refl, sym, ap, ◌∙◌, subst, inl, inr, arith}
use Rattle.sg_gateway.specs.Drawn.{supplied}
use Rattle.sg_trace.specs.Trace.{AtCapture, AtEnd as BehindAll, AtFault, Captures, ForDraw, Later, Stop, Trace, after_line, begins_capture, drawing, line_at, stopped, trace_from}
use Rattle.sg_capture.specs.declared.lines.CaptureLine.TheVariants as lines
use Rattle.sg_capture.proofs.Common.{CaptureEnds, CaptureLine, CaptureTrace, Course, Done, Event, Happens, HasNoLast, InScript, IsAll, IsAllTold, IsCapture}
use Rattle.sg_capture.proofs.Common.{IsCut, IsCutCapture, IsPrefixOf, IsRun, IsUnended, IsWholeCapture, Line, LoopEnds, NoMemory, Noise, Read, Script}
use Rattle.sg_capture.proofs.Common.{ScriptFault, Status, Tally, Tellings, Write, after_script, append-nil, as_trace, behind_line, captured, course}
use Rattle.sg_capture.proofs.Common.{course_from, empty, ended, given_so, length-map, lines_of, of_capture, of_script, output, output_of, script_alone}
use Rattle.sg_capture.proofs.Common.{script_of, start, text, text_from, unshared_told, version_after, with_deeds}
use Rattle.sg_capture.proofs.CaptureLines.{line_is, unended_stops}
use Rattle.sg_capture.proofs.Outputs.{happens-append, happens_text}

pub captured_at : (octets draws : List ℕ) (c : Trace) → script_of octets draws ≡ c → captured octets draws ≡ after_script octets c c.stop
captured_at octets draws c is = ap (λ (t : Trace). after_script octets t t.stop) is

-- ---- courses

behind_so : (version n end : ℕ) (begins : Bool) (r : Result Line ScriptFault) (later : ℕ → List ℕ → Course Event) (later' : ℕ → Later) (draws : List ℕ) → ((v : ℕ) (rest : List ℕ) → as_trace (later v rest) ≡ later' v 0 (drawing rest))
    → as_trace (behind_line of_capture version n end (cond begins (Ok lines.Capture) (of_script r)) later draws) ≡ cond begins (stopped (AtCapture end) (drawing draws)) (after_line Captures version n r later' 0 (drawing draws))
behind_so version n end true r later later' draws same = refl
behind_so version n end false (Err fault) later later' draws same = refl
behind_so version n end false (Ok l) later later' draws same = given_so (supplied draws l) (later (version_after version l)) (later' (version_after version l)) draws (same (version_after version l))

from_so : (version n at : ℕ) (ls : List (List ℕ)) (draws : List ℕ) → as_trace (course_from of_capture version n at ls draws) ≡ trace_from Captures version n at ls 0 (drawing draws)
from_so version n at [] draws = refl
from_so version n at (l ∷ ls) draws =
    ap (λ (r : Result CaptureLine ScriptFault). as_trace (behind_line of_capture version n (at + length l) r (λ v. course_from of_capture v (n + 1) (at + length l) ls) draws)) (line_is version n at l)
    ∙ behind_so version n (at + length l) (begins_capture Captures n at l) (line_at version n at l) (λ v. course_from of_capture v (n + 1) (at + length l) ls) (λ v. trace_from Captures v (n + 1) (at + length l) ls) draws
    (λ v rest. from_so v (n + 1) (at + length l) ls rest)

pub script_so : (octets draws : List ℕ) → script_of octets draws ≡ as_trace (course of_capture octets draws)
script_so octets draws = sym (from_so 1 1 0 (lines_of octets) draws)

-- what is told from the start on, where no leg may share its ports
pub output_so : (events : List Event) → text_from (start false) events ≡ output events
output_so events = ap text (unshared_told empty events)

-- ---- a script that ends before a capture

stops_alone : (octets : List ℕ) (c : Trace) (stop : Stop) → ((at : ℕ) → stop ≡ AtCapture at → ⊥) → after_script octets c stop ≡ script_alone c
stops_alone octets c (AtCapture at) none = absurd (none at refl)
stops_alone octets c other none = refl

module _ (octets draws : List ℕ) (none : HasNoLast (course of_capture octets draws)) where
  alone_so : captured octets draws ≡ script_alone (as_trace (course of_capture octets draws))
  alone_so =
      captured_at octets draws (as_trace (course of_capture octets draws)) (script_so octets draws)
      ∙ stops_alone octets (as_trace (course of_capture octets draws)) (course of_capture octets draws).stop none

  told_so : output_of empty (captured octets draws).occurrences ≡ text_from (start false) (course of_capture octets draws).deeds
  told_so = ap (λ (c : CaptureTrace). output_of empty c.occurrences) alone_so ∙ happens_text empty (course of_capture octets draws).deeds

whole_so : (octets draws out : List ℕ) (stop : Stop) → ((at : ℕ) → stop ≡ AtCapture at → ⊥) → IsAll of_capture (text_from (start false)) octets draws out stop → IsWholeCapture octets draws out (InScript stop)
whole_so octets draws out stop none all =
    let lasts_not : HasNoLast (course of_capture octets draws) = λ at is. none at (sym all.stops ∙ is) in record {
      stops = ap (λ (c : CaptureTrace). c.stop) (alone_so octets draws lasts_not) ∙ ap InScript all.stops;
      left = ap (λ (c : CaptureTrace). c.left) (alone_so octets draws lasts_not) ∙ ap drawing all.left;
      told = all.told ∙ sym (told_so octets draws lasts_not);
    }

cut_so : (octets draws out : List ℕ) → IsCut of_capture (text_from (start false)) 258 octets draws out → IsCutCapture octets draws out
cut_so octets draws out cut =
    let both : output_of empty (map Happens cut.told ++ map Happens cut.late) ≡ text_from (start false) (cut.told ++ cut.late) = ap (output_of empty) (sym (happens-append cut.told cut.late)) ∙ happens_text empty (cut.told ++ cut.late) in
    let near = cut.near in
    let few = cut.few in record {
      played = cut.played;
      ahead = cut.ahead;
      split = cut.split;
      near = omega (arith, near);
      told = map Happens cut.told;
      late = map Happens cut.late;
      alike = told_so cut.played draws cut.no_last ∙ cut.alike ∙ sym both;
      few = omega (arith, few, length-map cut.late Happens);
      begun = (cut.begun.0, cut.begun.1 ∙ ap (λ (o : List ℕ). o ++ cut.begun.0) (sym (happens_text empty cut.told)));
      within = subst (IsPrefixOf out) (sym both) cut.within;
    }

-- how the loop ends, where what it told at a failed read is all
ends_so : (status : Status) (octets draws out : List ℕ) (left : Tally) → (status ≡ Read → IsAllTold octets draws out) → LoopEnds of_capture (text_from (start false)) 258 status octets draws out left
    → CaptureEnds status octets draws out left
ends_so Done octets draws out left read ends = (inl (whole_so octets draws out BehindAll (λ at is. cc) ends.0), ends.1)
ends_so (Script n fault) octets draws out left read ends = (
  whole_so octets draws out (AtFault n fault) (λ at is. cc) ends.0,
  ends.1,
  λ other more. (
      let stops : (course of_capture (octets ++ more) draws).stop ≡ AtFault n fault = ap (λ (c : Course Event). c.stop) (ends.2 other more) ∙ ends.0.stops in
      let lasts_not : HasNoLast (course of_capture (octets ++ more) draws) = λ at is. (let both : AtFault n fault ≡ AtCapture at = sym stops ∙ is in cc) in
      ap (λ (c : CaptureTrace). c.stop) (alone_so (octets ++ more) draws lasts_not) ∙ ap InScript stops),
)
ends_so Noise octets draws out left read ends = whole_so octets draws out ForDraw (λ at is. cc) ends
ends_so Read octets draws out left read ends = read refl
ends_so Write octets draws out left read ends = cut_so octets draws out ends
ends_so NoMemory octets draws out left read ends = cut_so octets draws out ends
ends_so other octets draws out left read ends = absurd ends

-- ---- the loop

-- octets without a line end tell nothing
read_told : (octets draws out : List ℕ) → IsUnended of_capture (text_from (start false)) octets draws out → IsAllTold octets draws out
read_told octets draws out is = elim (unended_stops is.version is.number is.offset is.part is.unended) [
  | inl nothing ↦ stopped_at BehindAll (λ at same. cc) nothing
  | inr fails ↦ stopped_at (AtFault is.number fails.0) (λ at same. cc) fails.1
]
  where
    stopped_at : (stop : Stop) → ((at : ℕ) → stop ≡ AtCapture at → ⊥) → course_from of_capture is.version is.number is.offset (lines_of is.part) [] ≡ ended stop [] → IsAllTold octets draws out
    stopped_at stop no_last stops =
        let whole : course of_capture octets draws ≡ with_deeds is.deeds (ended stop []) = ap (λ (o : List ℕ). course of_capture o draws) is.split ∙ is.goes is.part ∙ ap (with_deeds is.deeds) stops in
        let lasts_not : HasNoLast (course of_capture octets draws) = λ at same. no_last at (sym (ap (λ (c : Course Event). c.stop) whole) ∙ same) in record {
          left = ap (λ (c : CaptureTrace). c.left) (alone_so octets draws lasts_not) ∙ ap (λ (c : Course Event). drawing c.left) whole;
          told = is.told ∙ ap (text_from (start false)) (sym (append-nil is.deeds)) ∙ sym (told_so octets draws lasts_not ∙ ap (λ (c : Course Event). text_from (start false) c.deeds) whole);
        }

-- a run that ended before the line `capture`
pub run_so : (status : Status) (old new : Tellings) (octets draws out : List ℕ) → IsRun of_capture (text_from (start false)) 258 false status old new octets draws out → IsCapture status old new octets draws out
run_so status old new octets draws out run = record {
  took = run.took;
  drew = run.drew;
  wrote = run.wrote;
  ends = ends_so status octets draws out new.left (λ is. read_told octets draws out (run.unended is)) run.ends;
  bound = run.bound;
}
