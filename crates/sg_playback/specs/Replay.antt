-- What a replay answers, and what has passed between it and the outside by then.
use Rattle.std.specs.Prelude.{◌≡◌, ◌⊎◌, ◌≤◌, ◌+◌, ◌^◌, length, ℕ, Bool, List, [], ◌++◌, Option, Some, None}
use Rattle.sg_base.specs.declared.faults.ScriptFault.TheVariants.{Unended}
use Rattle.sg_lines.specs.ScriptLines.{NoEnd}
use Rattle.sg_lines.specs.declared.lines.Line.{Line}
use Rattle.sg_trace.specs.Course.{Given, Ways}
use Rattle.sg_trace.specs.Loop.{of_lines}
pub use Rattle.sg_trace.specs.Loop.{Tellings as ReplayTellings}
use Rattle.sg_trace.specs.Trace.{AtEnd as BehindAll, AtFault, ForDraw, Stop, drawing, replayed}
use Rattle.sg_trace.specs.Grammar.{IsScript}
use Rattle.sg_trace.specs.Output.{IsPrefixOf, text}
use Rattle.sg_trace.specs.declared.status.Status.{Status}
use Rattle.sg_trace.specs.declared.status.Status.TheVariants.{Done, Script, Read, Write, NoMemory, Noise}
use Rattle.sg_edge.specs.Links.{Added}
use Rattle.sg_edge.specs.Told.{AtEnd, Tally, TookIn, Wrote}
use Rattle.sg_gateway.specs.Drawn.{Supplied, supplied}
use Rattle.sg_gateway.specs.Events.{events_of}
use Rattle.sg_gateway.specs.Step.{Event}
use Rattle.sg_mux.specs.Via.{outcomes_in}

-- what the events tell, where legs may share their ports or may not
abbrev pub output_in : Bool → List Event → List ℕ
output_in muxes events = text (outcomes_in muxes events)

-- what a line gives that has its noise: its events
abbrev pub given_by : Option Supplied → Option (Given Event)
given_by None = None
given_by (Some s) = Some (record { deeds = events_of s.line; left = s.draws })

abbrev pub gives : Line → List ℕ → Option (Given Event)
gives = λ l draws. given_by (supplied draws l)

-- how a replay reads a script, and what its lines give
abbrev pub of_replay : Ways Line Event
of_replay = of_lines gives

-- The events of these octets, with these drawn, end there. All that they tell was written, and no octet was drawn
-- besides.
pub record IsWholeReplay (muxes : Bool) (octets draws out : List ℕ) (stop : Stop) : Type 0 where
  pub stops : (replayed octets draws).stop ≡ stop
  pub left : (replayed octets draws).left ≡ drawing []
  pub told : out ≡ output_in muxes (replayed octets draws).events

-- Whole lines were read, and behind them octets without a line end. All that the lines tell was written.
pub record IsReplayOfLines (muxes : Bool) (octets draws out : List ℕ) : Type 0 where
  pub lines : List ℕ
  pub part : List ℕ
  pub split : octets ≡ lines ++ part
  pub unended : NoEnd part
  pub all : IsWholeReplay muxes lines draws out BehindAll

-- Of the octets that were read these were played, and those were ahead: a line and what the buffer holds, at most. What the
-- former tell was written but for the batch under way, 256 datagrams at most, and the line at which it was told: of their
-- text a prefix was.
pub record IsCutReplay (muxes : Bool) (octets draws out : List ℕ) : Type 0 where
  pub played : List ℕ
  pub ahead : List ℕ
  pub split : octets ≡ played ++ ahead
  pub near : length ahead ≤ 74097
  pub told : List Event
  pub late : List Event
  pub alike : output_in muxes (replayed played draws).events ≡ output_in muxes (told ++ late)
  pub few : length late ≤ 258
  pub begun : IsPrefixOf (output_in muxes told) out
  pub within : IsPrefixOf out (output_in muxes (told ++ late))

-- The status, by the octets read, drawn and written, and by what the source has left. With Done all is handled and
-- the source is at its end. With Script the lines before the named one are handled, and the named line is the first
-- outside the grammar, with its first fault, whatever would come behind what was read; Unended comes only at the
-- source's end. With Noise a draw comes next. Where the source failed, all whole lines that were read are told. Where the
-- sink failed or memory is wanting, nothing before the batch under way is lost.
abbrev pub ReplayEnds : Bool → Status → List ℕ → List ℕ → List ℕ → Tally → Type 0
ReplayEnds muxes Done octets draws out left = IsWholeReplay muxes octets draws out BehindAll × AtEnd left
ReplayEnds muxes (Script n fault) octets draws out left =
    IsWholeReplay muxes octets draws out (AtFault n fault) × (fault ≡ Unended → AtEnd left)
    × (¬ (fault ≡ Unended) → (more : List ℕ) → (replayed (octets ++ more) draws).stop ≡ AtFault n fault)
ReplayEnds muxes Noise octets draws out left = IsWholeReplay muxes octets draws out ForDraw
ReplayEnds muxes Read octets draws out left = IsReplayOfLines muxes octets draws out
ReplayEnds muxes Write octets draws out left = IsCutReplay muxes octets draws out
ReplayEnds muxes NoMemory octets draws out left = IsCutReplay muxes octets draws out
ReplayEnds muxes other octets draws out left = ⊥

-- The replay read these octets, of which there are at most 2^30 + 1, drew these, and wrote those.
pub record IsReplay (muxes : Bool) (status : Status) (old new : ReplayTellings) (octets draws out : List ℕ) : Type 0 where
  pub took : TookIn old.left new.left octets
  pub drew : Added old.drawn new.drawn draws
  pub wrote : Wrote old.written new.written out
  pub ends : ReplayEnds muxes status octets draws out new.left
  pub bound : length octets ≤ 2 ^ 30 + 1

-- Where the source's octets are a script, the replay handles it to its end, or memory runs out.
abbrev pub IsCompleteReplay : Status → Tally → Tally → Type 0
IsCompleteReplay status left left' = (all rest : List ℕ) → left.told ≡ Some all → left'.told ≡ Some rest → IsScript all → (status ≡ Done) ⊎ (status ≡ NoMemory)
