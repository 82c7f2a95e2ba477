-- A replay is the course of its lines, and how it ends is how the loop does.
use Rattle.std.proofs.Common.{◌≡◌, ◌+◌, ℕ, Bool, List, [], ◌∷◌, ◌++◌, length, Option, None, Some, Result, Ok, Err, refl, sym, ap, ◌∙◌, subst}
use Rattle.sg_base.specs.declared.faults.ScriptFault.{ScriptFault}
use Rattle.sg_front.proofs.Runs.{told_in}
use Rattle.sg_lines.specs.LineOf.{version_after}
use Rattle.sg_lines.specs.ScriptLines.{lines_of}
use Rattle.sg_trace.specs.Trace.{AtEnd as BehindAll, AtFault, Later, Replays, Stop, Trace, after_line, drawing, handled_as, line_at, replayed, trace_from, with_events}
use Rattle.sg_playback.proofs.Common.{AreTold, Course, Done, Event, IsAll, IsCut, IsCutReplay, IsPrefixOf, IsReplayOfLines, IsWholeReplay, Line, LoopEnds}
use Rattle.sg_playback.proofs.Common.{NoMemory, Noise, Read, ReplayEnds, Script, Status, Supplied, Tally, Write, behind_given, behind_line, course}
use Rattle.sg_playback.proofs.Common.{course_from, events_of, given_by, of_replay, output_in, start, supplied, text, text_from}

-- ---- courses

abbrev pub as_trace : Course Event → Trace
as_trace c = record { events = c.deeds; stop = c.stop; left = drawing c.left }

pub given_so : (s : Option Supplied) (later : List ℕ → Course Event) (later' : Later) (draws : List ℕ) → ((rest : List ℕ) → as_trace (later rest) ≡ later' 0 (drawing rest))
    → as_trace (behind_given (given_by s) draws later) ≡ handled_as s later' 0 (drawing draws)
given_so None later later' draws same = refl
given_so (Some s) later later' draws same = ap (with_events (events_of s.line)) (same s.draws)

behind_so : (version n end : ℕ) (r : Result Line ScriptFault) (later : ℕ → List ℕ → Course Event) (later' : ℕ → Later) (draws : List ℕ) → ((v : ℕ) (rest : List ℕ) → as_trace (later v rest) ≡ later' v 0 (drawing rest))
    → as_trace (behind_line of_replay version n end r later draws) ≡ after_line Replays version n r later' 0 (drawing draws)
behind_so version n end (Err fault) later later' draws same = refl
behind_so version n end (Ok l) later later' draws same = given_so (supplied draws l) (later (version_after version l)) (later' (version_after version l)) draws (same (version_after version l))

from_so : (version n at : ℕ) (ls : List (List ℕ)) (draws : List ℕ) → as_trace (course_from of_replay version n at ls draws) ≡ trace_from Replays version n at ls 0 (drawing draws)
from_so version n at [] draws = refl
from_so version n at (l ∷ ls) draws =
    behind_so version n (at + length l) (line_at version n at l) (λ v. course_from of_replay v (n + 1) (at + length l) ls) (λ v. trace_from Replays v (n + 1) (at + length l) ls) draws (λ v rest. from_so v (n + 1) (at + length l) ls rest)

pub replay_so : (octets draws : List ℕ) → as_trace (course of_replay octets draws) ≡ replayed octets draws
replay_so octets draws = from_so 1 1 0 (lines_of octets) draws

-- ---- ends

module _ (muxes : Bool) where
  -- what a state tells from the start on
  pub output_so : (events : List Event) → text_from (start muxes) events ≡ output_in muxes events
  output_so events = ap text (told_in muxes events)

  told_so : (octets draws : List ℕ) → text_from (start muxes) (course of_replay octets draws).deeds ≡ output_in muxes (replayed octets draws).events
  told_so octets draws = output_so (course of_replay octets draws).deeds ∙ ap (λ (t : Trace). output_in muxes t.events) (replay_so octets draws)

  whole_so : (octets draws out : List ℕ) (stop : Stop) → IsAll of_replay (text_from (start muxes)) octets draws out stop → IsWholeReplay muxes octets draws out stop
  whole_so octets draws out stop all = record {
    stops = sym (ap (λ (t : Trace). t.stop) (replay_so octets draws)) ∙ all.stops;
    left = sym (ap (λ (t : Trace). t.left) (replay_so octets draws)) ∙ ap drawing all.left;
    told = all.told ∙ told_so octets draws;
  }

  lines_so : (octets draws out : List ℕ) → AreTold of_replay (text_from (start muxes)) octets draws out → IsReplayOfLines muxes octets draws out
  lines_so octets draws out are = record { lines = are.lines; part = are.part; split = are.split; unended = are.unended; all = whole_so are.lines draws out BehindAll are.all }

  cut_so : (octets draws out : List ℕ) → IsCut of_replay (text_from (start muxes)) 258 octets draws out → IsCutReplay muxes octets draws out
  cut_so octets draws out cut = record {
    played = cut.played;
    ahead = cut.ahead;
    split = cut.split;
    near = cut.near;
    told = cut.told;
    late = cut.late;
    alike = sym (told_so cut.played draws) ∙ cut.alike ∙ output_so (cut.told ++ cut.late);
    few = cut.few;
    begun = (cut.begun.0, cut.begun.1 ∙ ap (λ (o : List ℕ). o ++ cut.begun.0) (output_so cut.told));
    within = subst (IsPrefixOf out) (output_so (cut.told ++ cut.late)) cut.within;
  }

  pub ends_so : (status : Status) (octets draws out : List ℕ) (left : Tally) → LoopEnds of_replay (text_from (start muxes)) 258 status octets draws out left → ReplayEnds muxes status octets draws out left
  ends_so Done octets draws out left ends = (whole_so octets draws out BehindAll ends.0, ends.1)
  ends_so (Script n fault) octets draws out left ends = (
    whole_so octets draws out (AtFault n fault) ends.0,
    ends.1,
    λ other more. sym (ap (λ (t : Trace). t.stop) (replay_so (octets ++ more) draws)) ∙ ap (λ (c : Course Event). c.stop) (ends.2 other more) ∙ ends.0.stops,
  )
  ends_so Noise octets draws out left ends = whole_so octets draws out _ ends
  ends_so Read octets draws out left ends = lines_so octets draws out ends
  ends_so Write octets draws out left ends = cut_so octets draws out ends
  ends_so NoMemory octets draws out left ends = cut_so octets draws out ends
  ends_so other octets draws out left ends = absurd ends
