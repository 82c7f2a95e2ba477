-- What the command answers, and what has passed between it and the outside by then.
use Rattle.std.specs.Prelude.{◌≡◌, ◌⊎◌, ◌≤◌, ◌+◌, ◌^◌, length, ℕ, List, [], ◌++◌, Some, None}
use Rattle.sg_base.specs.declared.faults.ScriptFault.{ScriptFault}
use Rattle.sg_base.specs.declared.faults.ScriptFault.TheVariants.{Unended}
use Rattle.sg_edge.specs.Links.{Added}
use Rattle.sg_edge.specs.Told.{AtEnd, Tally, TookIn, Wrote}
use Rattle.sg_gateway.specs.World.{empty}
use Rattle.sg_pcap.specs.declared.faults.CaptureFault.{CaptureFault}
use Rattle.sg_pcap.specs.declared.faults.CaptureFault.TheVariants.{Cut}
use Rattle.sg_trace.specs.Captured.{Occurrence, CaptureStop, InCapture, InScript, captured, output_of}
use Rattle.sg_trace.specs.Loop.{Tellings}
use Rattle.sg_trace.specs.Output.{IsPrefixOf}
use Rattle.sg_trace.specs.Trace.{AtEnd as BehindAll, AtFault, ForDraw, drawing}
use Rattle.sg_trace.specs.declared.status.Status.{Status}
use Rattle.sg_trace.specs.declared.status.Status.TheVariants as statuses

-- The trace of these octets, with these drawn, stops there. All that it tells was written, and no octet was drawn
-- besides.
pub record IsWholeCapture (octets draws out : List ℕ) (stop : CaptureStop) : Type 0 where
  pub stops : (captured octets draws).stop ≡ stop
  pub left : (captured octets draws).left ≡ drawing []
  pub told : out ≡ output_of empty (captured octets draws).occurrences

-- All whole lines and records in what was read were handled, and all that they tell was written. No octet was drawn besides.
pub record IsAllTold (octets draws out : List ℕ) : Type 0 where
  pub left : (captured octets draws).left ≡ drawing []
  pub told : out ≡ output_of empty (captured octets draws).occurrences

-- Of the octets that were read these were handled, and those were ahead: a line or a record and what the buffer holds, at most.
-- What the former tell was written but for the batch under way, 256 datagrams at most, and the line or record at which it was
-- told: of their text a prefix was.
pub record IsCutCapture (octets draws out : List ℕ) : Type 0 where
  pub played : List ℕ
  pub ahead : List ℕ
  pub split : octets ≡ played ++ ahead
  pub near : length ahead ≤ 266256
  pub told : List Occurrence
  pub late : List Occurrence
  pub alike : output_of empty (captured played draws).occurrences ≡ output_of empty (told ++ late)
  pub few : length late ≤ 258
  pub begun : IsPrefixOf (output_of empty told) out
  pub within : IsPrefixOf out (output_of empty (told ++ late))

-- The status, by the octets read, drawn and written, and by what the source has left. With Done all is handled and the
-- source is at its end. With Script the lines before the named one are handled, and with Capture the records before the
-- first fault: it is that fault, whatever would come behind what was read; Unended and Cut come only at the source's end.
-- With Noise a draw comes next. Where the source failed, all whole lines and records that were read are told. Where the sink
-- failed or memory is wanting, nothing before the batch under way is lost.
abbrev pub CaptureEnds : Status → List ℕ → List ℕ → List ℕ → Tally → Type 0
CaptureEnds statuses.Done octets draws out left = (IsWholeCapture octets draws out (InScript BehindAll) ⊎ IsWholeCapture octets draws out (InCapture None)) × AtEnd left
CaptureEnds (statuses.Script n fault) octets draws out left =
    IsWholeCapture octets draws out (InScript (AtFault n fault)) × (fault ≡ Unended → AtEnd left)
    × (¬ (fault ≡ Unended) → (more : List ℕ) → (captured (octets ++ more) draws).stop ≡ InScript (AtFault n fault))
CaptureEnds (statuses.Capture offset fault) octets draws out left =
    IsWholeCapture octets draws out (InCapture (Some (offset, fault))) × (fault ≡ Cut → AtEnd left)
    × (¬ (fault ≡ Cut) → (more : List ℕ) → (captured (octets ++ more) draws).stop ≡ InCapture (Some (offset, fault)))
CaptureEnds statuses.Noise octets draws out left = IsWholeCapture octets draws out (InScript ForDraw)
CaptureEnds statuses.Read octets draws out left = IsAllTold octets draws out
CaptureEnds statuses.Write octets draws out left = IsCutCapture octets draws out
CaptureEnds statuses.NoMemory octets draws out left = IsCutCapture octets draws out
CaptureEnds other octets draws out left = ⊥

-- The run read these octets, of which there are at most 2^30 + 1, drew these, and wrote those.
pub record IsCapture (status : Status) (old new : Tellings) (octets draws out : List ℕ) : Type 0 where
  pub took : TookIn old.left new.left octets
  pub drew : Added old.drawn new.drawn draws
  pub wrote : Wrote old.written new.written out
  pub ends : CaptureEnds status octets draws out new.left
  pub bound : length octets ≤ 2 ^ 30 + 1

-- Neither the script in these octets nor the capture behind it has a fault, whatever is drawn.
pub record IsFaultless (octets : List ℕ) : Type 0 where
  pub script : (draws : List ℕ) (n : ℕ) (fault : ScriptFault) → ¬ ((captured octets draws).stop ≡ InScript (AtFault n fault))
  pub capture : (draws : List ℕ) (fault : ℕ × CaptureFault) → ¬ ((captured octets draws).stop ≡ InCapture (Some fault))

-- Where the source's octets have no fault, the run handles them to their end, or memory runs out.
abbrev pub IsCompleteCapture : Status → Tally → Tally → Type 0
IsCompleteCapture status left left' = (all rest : List ℕ) → left.told ≡ Some all → left'.told ≡ Some rest → IsFaultless all → (status ≡ statuses.Done) ⊎ (status ≡ statuses.NoMemory)
