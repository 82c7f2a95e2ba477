-- How a trace goes on, line by line.
use Rattle.std.proofs.Common.{◌≡◌, ◌<◌, ◌+◌, ℕ, false, List, [], ◌∷◌, ◌++◌, length, Ok, refl, ap, ◌∙◌, append_assoc, length-append, arith, flat_map}
use Rattle.sg_gateway.specs.Runs.{Turn, turns_from, world_after}
use Rattle.sg_outcome.specs.OutcomeText.{outcome_line}
use Rattle.sg_trace.proofs.Common.{Command, Event, IsWhole, Line, Outside, Trace, World, after_line, begins_capture, cond-false, flat_map-append, handled}
use Rattle.sg_trace.proofs.Common.{line_at, lines_of, lines_of_whole, outcomes_from, output_from, step, text, trace_from, version_after, with_events}

-- ---- lines

pub whole_some : (line : List ℕ) → IsWhole line → 0 < length line
whole_some line whole = omega (arith, ap length whole.1, length-append whole.0 (10 ∷ []))

-- a line that is read
pub reads_on : (k : Command) (version n at : ℕ) (line rest : List ℕ) (l : Line) (top : ℕ) (o : Outside) → begins_capture k n at line ≡ false → IsWhole line → line_at version n at line ≡ Ok l
    → trace_from k version n at (lines_of (line ++ rest)) top o ≡ handled l (trace_from k (version_after version l) (n + 1) (at + length line) (lines_of rest)) top o
reads_on k version n at line rest l top o other whole is =
    ap (λ ls. trace_from k version n at ls top o) (lines_of_whole line rest whole)
    ∙ cond-false (begins_capture k n at line) _ _ other
    ∙ ap (λ r. after_line k version n r (λ v. trace_from k v (n + 1) (at + length line) (lines_of rest)) top o) is

-- ---- events

turns_from-append : (w : World) (es fs : List Event) → turns_from w (es ++ fs) ≡ turns_from w es ++ turns_from (world_after w es) fs
turns_from-append w [] fs = refl
turns_from-append w (e ∷ es) fs = ap (λ (l : List Turn). record { before = w; event = e; outcomes = (step w e).outcomes; entries = (step w e).entries } ∷ l) (turns_from-append (step w e).world es fs)

pub world_after-append : (w : World) (es fs : List Event) → world_after w (es ++ fs) ≡ world_after (world_after w es) fs
world_after-append w [] fs = refl
world_after-append w (e ∷ es) fs = world_after-append (step w e).world es fs

-- what events tell, and what further ones tell in the world after them
pub outcomes_from-append : (w : World) (es fs : List Event) → outcomes_from w (es ++ fs) ≡ outcomes_from w es ++ outcomes_from (world_after w es) fs
outcomes_from-append w es fs =
    ap (λ ts. flat_map (λ (t : Turn). t.outcomes) ts) (turns_from-append w es fs)
    ∙ flat_map-append (λ (t : Turn). t.outcomes) (turns_from w es) (turns_from (world_after w es) fs)

pub output_from-append : (w : World) (es fs : List Event) → output_from w (es ++ fs) ≡ output_from w es ++ output_from (world_after w es) fs
output_from-append w es fs = ap text (outcomes_from-append w es fs) ∙ flat_map-append outcome_line (outcomes_from w es) (outcomes_from (world_after w es) fs)
