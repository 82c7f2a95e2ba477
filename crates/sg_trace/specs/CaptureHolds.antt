-- What holds of each run whose script may end in a capture, of the capture as it was written.
use Rattle.std.specs.Prelude.{◌≡◌, ◌⊎◌, ◌≤◌, ◌<◌, ◌+◌, ◌^◌, ℕ, List, [], ◌∷◌, ◌++◌, length, map, drop, codes, Some, None}
use Rattle.std.specs.List.{All, AllByRecursion}
use Rattle.sg_base.specs.declared.addresses.Address.{Address}
use Rattle.sg_gateway.specs.Octets.{as_octets}
use Rattle.sg_gateway.specs.Runs.{world_after}
use Rattle.sg_gateway.specs.Signals.{Tick}
use Rattle.sg_gateway.specs.Step.{Datagram, Signalled}
use Rattle.sg_gateway.specs.World.{empty}
use Rattle.sg_lines.specs.ScriptLines.{lines_of}
use Rattle.sg_pcap.specs.Capture.{Captured}
use Rattle.sg_pcap.specs.Frames.{Framed, Passed, Skip}
use Rattle.sg_pcap.specs.Frames as frames
use Rattle.sg_pcap.specs.Kinds.{IsFrame}
use Rattle.sg_pcap.specs.Readings.{IsOfVersion}
use Rattle.sg_pcap.specs.Written.{FitsHeader, FitsTaken, Header, Taken, capture_written, header_written, moment_taken}
use Rattle.sg_pcap.specs.declared.faults.CaptureFault.TheVariants.{Version, LinkType}
use Rattle.sg_pcap.specs.declared.header.Form.{Form}
use Rattle.sg_pcap.specs.declared.skips.SkipCause.{SkipCause}
use Rattle.sg_trace.specs.Captured.{Happens, InCapture, InScript, Occurrence, Skipped, capture_occurs, captured, output_of, script_of}
use Rattle.sg_trace.specs.Output.{output}
use Rattle.sg_trace.specs.Trace.{AtCapture, replayed}

-- ---- one record of a capture, by those before it

abbrev pub first_millis : List Captured → ℕ
first_millis [] = 0
first_millis (r ∷ rs) = r.millis

-- how long behind the first record one was captured, and no time where it was captured before it
abbrev pub IsSince : ℕ → ℕ → ℕ → Type 0
IsSince first millis since = (millis ≡ first + since) ⊎ ((millis < first) × (since ≡ 0))

-- The moment of a record of that millisecond, where the first record has this one, behind a script whose last moment is this:
-- as long behind the one as it was captured behind the other, and no later than the last moment that there is.
abbrev pub IsMoment : ℕ → ℕ → ℕ → ℕ → Type 0
IsMoment last first millis at = (since : ℕ) × IsSince first millis since
    × (((last + since ≤ 2085978495999) × (at ≡ last + since)) ⊎ ((2085978495999 < last + since) × (at ≡ 2085978495999)))

-- the moments of records, one for each
abbrev pub AreMoments : ℕ → ℕ → List Captured → List ℕ → Type 0
AreMoments last first [] moments = moments ≡ []
AreMoments last first (r ∷ rs) moments = (at : ℕ) × (others : List ℕ) × (moments ≡ at ∷ others) × IsMoment last first r.millis at × AreMoments last first rs others

-- what a frame gives as the record of this number: nothing, a line that tells why there is no datagram, or a datagram, of which
-- the first 4,352 octets count
pub data IsGiven (number : ℕ) : Framed → List Occurrence → Type 0 where
  Nothing : IsGiven number Passed []
  Tells : (cause : SkipCause) → IsGiven number (Skip cause) (Skipped number cause ∷ [])
  Short : (port : ℕ) (from : Address) (octets : List ℕ) → length octets ≤ 4352 → IsGiven number (frames.Datagram port from octets) (Happens (Datagram port from (as_octets octets)) ∷ [])
  Long : (port : ℕ) (from : Address) (octets rest : List ℕ) → length octets ≡ 4352 → IsGiven number (frames.Datagram port from (octets ++ rest)) (Happens (Datagram port from (as_octets octets)) ∷ [])

-- A moment greater than the script's last one and than those of all records before is a tick, whatever the frame is; and then
-- comes what the frame gives. Records are numbered from 1.
pub record ComesNext (last : ℕ) (before : List Captured) (r : Captured) (m : Framed) : Type 0 where
  pub at : ℕ
  pub when : IsMoment last (first_millis (before ++ r ∷ [])) r.millis at
  pub moments : List ℕ
  pub earlier : AreMoments last (first_millis (before ++ r ∷ [])) before moments
  pub ticks : List Occurrence
  pub gives : List Occurrence
  pub given : IsGiven (1 + length before) m gives
  pub is : capture_occurs last (before ++ r ∷ []) ≡ capture_occurs last before ++ (ticks ++ gives)
  pub later : AllByRecursion (λ moment. moment < at) (last ∷ moments) → ticks ≡ Happens (Signalled (Tick at)) ∷ []
  pub other : ¬ AllByRecursion (λ moment. moment < at) (last ∷ moments) → ticks ≡ []

-- ---- the run

-- no line is `capture`
abbrev pub CapturesNone : List ℕ → Type 0
CapturesNone octets = All (λ line. ¬ (line ≡ codes "capture\n")) (lines_of octets)

-- it is a replay's run: the same events, the same end, the same octets drawn and written
pub record IsReplayed (octets draws : List ℕ) : Type 0 where
  pub occurs : (captured octets draws).occurrences ≡ map Happens (replayed octets draws).events
  pub stop : (captured octets draws).stop ≡ InScript (replayed octets draws).stop
  pub left : (captured octets draws).left ≡ (replayed octets draws).left
  pub text : output_of empty (captured octets draws).occurrences ≡ output (replayed octets draws).events

-- Behind the script stands a capture that was written of these: each record of it comes, and nothing else.
pub record HoldsAll (octets draws : List ℕ) (form : Form) (ts : List Taken) : Type 0 where
  pub occurs : (captured octets draws).occurrences
      ≡ map Happens (script_of octets draws).events ++ capture_occurs (world_after empty (script_of octets draws).events).moment (map (moment_taken form) ts)
  pub stop : (captured octets draws).stop ≡ InCapture None

-- A capture that was written is met as what was written, and one of another version or link isn't read; and without a line
-- `capture` the run is a replay's.
pub record CaptureHolds (octets draws : List ℕ) : Type 0 where
  pub whole : (at : ℕ) (form : Form) (h : Header) (ts : List Taken) → (script_of octets draws).stop ≡ AtCapture at → drop at octets ≡ capture_written form h ts → at ≤ length octets
      → length octets ≤ 2 ^ 30 → FitsHeader h → IsOfVersion h → h.link ≡ 1 → AllByRecursion FitsTaken ts → HoldsAll octets draws form ts
  pub version : (at : ℕ) (form : Form) (h : Header) (rest : List ℕ) → (script_of octets draws).stop ≡ AtCapture at → drop at octets ≡ header_written form h ++ rest → at + 24 ≤ 2 ^ 30
      → FitsHeader h → ¬ IsOfVersion h → (captured octets draws).stop ≡ InCapture (Some (4, Version))
  pub link : (at : ℕ) (form : Form) (h : Header) (rest : List ℕ) → (script_of octets draws).stop ≡ AtCapture at → drop at octets ≡ header_written form h ++ rest → at + 24 ≤ 2 ^ 30
      → FitsHeader h → IsOfVersion h → ¬ (h.link ≡ 1) → (captured octets draws).stop ≡ InCapture (Some (20, LinkType))
  pub none : (last : ℕ) → capture_occurs last [] ≡ []
  pub next : (last : ℕ) (before : List Captured) (r : Captured) (m : Framed) → IsFrame r.frame m → ComesNext last before r m
  pub replayed : CapturesNone octets → IsReplayed octets draws
