-- What playing the records of a capture leaves.
use Rattle.std.specs.Prelude.{◌≡◌, ◌≤◌, ℕ, List, ◌++◌, length, map, Option, Some, None, Result, Ok, Err}
use Rattle.sg_edge.specs.Told.{AtEnd, Tally}
use Rattle.sg_front.specs.States.{FrontStandsFor, FrontValue, unshared}
use Rattle.sg_gateway.specs.Runs.{world_after}
use Rattle.sg_gateway.specs.Step.{Event}
use Rattle.sg_gateway.specs.World.{World}
use Rattle.sg_pcap.specs.Capture.{Captured, Capture}
use Rattle.sg_pcap.specs.Frames.{frame_of}
use Rattle.sg_pcap.specs.declared.faults.CaptureFault.{CaptureFault}
use Rattle.sg_pcap.specs.declared.faults.CaptureFault.TheVariants.{Cut}
use Rattle.sg_playback.specs.Playing.{IsWant}
use Rattle.sg_trace.specs.Captured.{Happens, Occurrence, capture_occurs, captured_events, frame_occurs, moment_in, output_of}
use Rattle.sg_trace.specs.Output.{IsPrefixOf}
use Rattle.sg_trace.specs.Trace.{ticks_at}
use Rattle.sg_trace.specs.declared.status.Status.{Status}
use Rattle.sg_trace.specs.declared.status.Status.TheVariants as statuses

-- the front stands for this world, and none of its legs may share its ports
abbrev pub StandsFor : FrontValue → World → Type 0
StandsFor front w = FrontStandsFor front (unshared w)

-- the first record's moment, where the next one has this
abbrev pub first_of : Option ℕ → ℕ → ℕ
first_of (Some first) millis = first
first_of None millis = millis

-- what one record gives
abbrev pub record_occurs : ℕ → ℕ → ℕ → ℕ → Captured → List Occurrence
record_occurs last first top number r = map Happens (ticks_at top (moment_in last first r.millis)) ++ frame_occurs number (frame_of r.frame)

-- These came behind the events that waited. A front of them all was handled and told, and the others wait.
pub record IsToldOf (w : World) (waited waits : List Event) (os : List Occurrence) (stands_for : World → Type 0) (out : List ℕ) : Type 0 where
  pub told : List Occurrence
  pub all : map Happens waited ++ os ≡ told ++ map Happens waits
  pub written : out ≡ output_of w told
  pub stands : stands_for (world_after w (captured_events told))

-- It is so; or the sink failed or memory ran out, and a prefix of what they tell was written.
abbrev pub IsMet : Result (Unit {0}) Status → World → List Event → List Event → List Occurrence → (World → Type 0) → List ℕ → Type 0
IsMet (Ok u) w waited waits os stands_for out = IsToldOf w waited waits os stands_for out
IsMet (Err status) w waited waits os stands_for out = IsWant status × IsPrefixOf out (output_of w (map Happens waited ++ os))

-- what waited, and then all that a capture gives behind a script whose last moment is this
abbrev pub all_behind : List Event → ℕ → Capture → List Occurrence
all_behind waited last c = map Happens waited ++ capture_occurs last c.records

-- All before the first fault was told. The fault is so whatever would come behind; Cut is told only at the source's end.
pub record IsFaultTold (w : World) (waited : List Event) (last : ℕ) (reads : List ℕ → Capture) (octets : List ℕ) (fault : ℕ × CaptureFault) (out : List ℕ) (left : Tally) : Type 0 where
  pub told : out ≡ output_of w (all_behind waited last (reads octets))
  pub is : (reads octets).fault ≡ Some fault
  pub ended : fault.1 ≡ Cut → AtEnd left
  pub still : ¬ (fault.1 ≡ Cut) → (more : List ℕ) → (reads (octets ++ more)).fault ≡ Some fault

-- Of the octets that were read these were handled, and those were ahead. What the former give was told but for what came last,
-- of whose text a prefix was.
pub record IsCutReading (w : World) (waited : List Event) (last : ℕ) (reads : List ℕ → Capture) (octets out : List ℕ) : Type 0 where
  pub played : List ℕ
  pub ahead : List ℕ
  pub split : octets ≡ played ++ ahead
  pub near : length ahead ≤ 266256
  pub told : List Occurrence
  pub late : List Occurrence
  pub all : all_behind waited last (reads played) ≡ told ++ late
  pub few : length late ≤ 258
  pub begun : IsPrefixOf (output_of w told) out
  pub within : IsPrefixOf out (output_of w (told ++ late))

-- The status, by the octets of the capture that were read, which `reads` says what they give, and by those written.
abbrev pub EndsReading : Status → World → List Event → ℕ → (List ℕ → Capture) → List ℕ → List ℕ → Tally → Type 0
EndsReading statuses.Done w waited last reads octets out left = (out ≡ output_of w (all_behind waited last (reads octets))) × ((reads octets).fault ≡ None) × AtEnd left
EndsReading (statuses.Capture offset fault) w waited last reads octets out left = IsFaultTold w waited last reads octets (offset, fault) out left
EndsReading statuses.Read w waited last reads octets out left = out ≡ output_of w (all_behind waited last (reads octets))
EndsReading statuses.Write w waited last reads octets out left = IsCutReading w waited last reads octets out
EndsReading statuses.NoMemory w waited last reads octets out left = IsCutReading w waited last reads octets out
EndsReading other w waited last reads octets out left = ⊥
