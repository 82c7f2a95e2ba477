-- The trace of a run whose script may end in a capture.
use Rattle.std.specs.Prelude.{ℕ, ◌+◌, ◌-◌, ◌^◌, min, max, List, [], ◌∷◌, ◌++◌, map, take, drop, Option}
use Rattle.sg_gateway.specs.Events.{outcomes_from}
use Rattle.sg_gateway.specs.Octets.{as_octets}
use Rattle.sg_gateway.specs.Runs.{world_after}
use Rattle.sg_gateway.specs.Step.{Event, Datagram, step}
use Rattle.sg_gateway.specs.World.{World, empty}
use Rattle.sg_lines.specs.ScriptLines.{lines_of}
use Rattle.sg_pcap.specs.Capture.{Captured, Capture, capture_of}
use Rattle.sg_pcap.specs.Frames.{Framed, frame_of}
use Rattle.sg_pcap.specs.Frames as frames
use Rattle.sg_pcap.specs.Skips.{skip_line}
use Rattle.sg_pcap.specs.declared.faults.CaptureFault.{CaptureFault}
use Rattle.sg_pcap.specs.declared.skips.SkipCause.{SkipCause}
use Rattle.sg_trace.specs.Output.{text}
use Rattle.sg_trace.specs.Trace.{Trace, Outside, Stop, AtCapture, Captures, trace_from, drawing, last_moment, ticks_at}

-- ---- records

-- what a run meets, in order: an event, or a record of this number that is skipped
pub data Occurrence : Type 0 where
  Happens : Event → Occurrence
  Skipped : ℕ → SkipCause → Occurrence

abbrev pub captured_events : List Occurrence → List Event
captured_events [] = []
captured_events (Happens e ∷ os) = e ∷ captured_events os
captured_events (Skipped number cause ∷ os) = captured_events os

-- what is written from a world on: what the events tell, with the lines of skipped records in their places
abbrev pub output_of : World → List Occurrence → List ℕ
output_of w [] = []
output_of w (Happens e ∷ os) = text (outcomes_from w (e ∷ [])) ++ output_of (step w e).world os
output_of w (Skipped number cause ∷ os) = skip_line number cause ++ output_of w os

-- of a record's frame; a longer datagram counts as its first 4,352 octets
abbrev pub frame_occurs : ℕ → Framed → List Occurrence
frame_occurs number frames.Passed = []
frame_occurs number (frames.Skip cause) = Skipped number cause ∷ []
frame_occurs number (frames.Datagram port from octets) = Happens (Datagram port from (as_octets (take 4352 octets))) ∷ []

-- a record's moment: as long behind the script's last moment as it is behind the first record
abbrev pub moment_in : ℕ → ℕ → ℕ → ℕ
moment_in last first millis = min (last + (millis - first)) last_moment

-- the records from this number on, where `top` is the greatest moment so far: each moment above it is a tick
abbrev pub records_occur : ℕ → ℕ → ℕ → ℕ → List Captured → List Occurrence
records_occur last first top number [] = []
records_occur last first top number (r ∷ rs) =
    map Happens (ticks_at top (moment_in last first r.millis)) ++ frame_occurs number (frame_of r.frame)
    ++ records_occur last first (max top (moment_in last first r.millis)) (number + 1) rs

-- all records behind a script whose last moment is this
abbrev pub capture_occurs : ℕ → List Captured → List Occurrence
capture_occurs last [] = []
capture_occurs last (r ∷ rs) = records_occur last r.millis last 1 (r ∷ rs)

-- ---- the run

-- where it ends: where its script does; or behind the capture's records, at its first fault where there is one
pub data CaptureStop : Type 0 where
  InScript : Stop → CaptureStop
  InCapture : Option (ℕ × CaptureFault) → CaptureStop

pub record CaptureTrace : Type 0 where
  pub occurrences : List Occurrence
  pub stop : CaptureStop
  pub left : Outside

abbrev pub script_alone : Trace → CaptureTrace
script_alone c = record { occurrences = map Happens c.events; stop = InScript c.stop; left = c.left }

abbrev pub then_capture : Trace → Capture → CaptureTrace
then_capture c capture = record {
  occurrences = map Happens c.events ++ capture_occurs (world_after empty c.events).moment capture.records;
  stop = InCapture capture.fault;
  left = c.left;
}

-- of these octets, where the script in them stopped: the capture begins there, and of all octets the first 2^30 count
abbrev pub after_script : List ℕ → Trace → Stop → CaptureTrace
after_script octets c (AtCapture at) = then_capture c (capture_of (2 ^ 30 - at) (drop at octets))
after_script octets c other = script_alone c

-- the trace of the script in these octets, with these drawn
abbrev pub script_of : List ℕ → List ℕ → Trace
script_of octets draws = trace_from Captures 1 1 0 (lines_of octets) 0 (drawing draws)

-- The trace of a run of these octets, with these drawn: a replay of the script, then the capture, if there is one.
abbrev pub captured : List ℕ → List ℕ → CaptureTrace
captured octets draws = after_script octets (script_of octets draws) (script_of octets draws).stop
