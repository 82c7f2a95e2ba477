-- What the loop that plays a script leaves, whatever plays it.
use Rattle.std.specs.Prelude.{◌≡◌, ◌⊎◌, ◌≤◌, ◌+◌, ◌^◌, ℕ, Bool, true, false, List, [], ◌++◌, length, Option, Some, None, Result, Ok, Err}
use Rattle.sg_base.specs.declared.faults.ScriptFault.{ScriptFault}
use Rattle.sg_base.specs.declared.faults.ScriptFault.TheVariants.{Unended}
use Rattle.sg_edge.specs.Links.{Added}
use Rattle.sg_edge.specs.Told.{AtEnd, Tally, TookIn, Wrote}
use Rattle.sg_lines.specs.LineOf.{line_of, version_after}
use Rattle.sg_lines.specs.ScriptLines.{IsWhole, NoEnd, lines_of}
use Rattle.sg_lines.specs.declared.lines.Line.{Line}
use Rattle.sg_trace.specs.Course.{Course, Given, Ways, course, course_from, ended, with_deeds}
use Rattle.sg_trace.specs.Output.{IsPrefixOf}
use Rattle.sg_trace.specs.Reading.{Reading}
use Rattle.sg_trace.specs.Trace.{AtCapture, AtEnd as BehindAll, AtFault, ForDraw, Spelling, Stop}
use Rattle.sg_trace.specs.declared.status.Status.{Status}
use Rattle.sg_trace.specs.declared.status.Status.TheVariants as statuses

-- ---- what deeds tell

-- what deeds tell from a state on, as it is written, and the state after them
pub record Effects (S D : Type 0) : Type 0 where
  pub tells : S → List D → List ℕ
  pub after : S → List D → S

-- deeds are done in order
pub record GoInOrder {S D : Type 0} (e : Effects S D) : Type 0 where
  pub none_told : (s : S) → e.tells s [] ≡ []
  pub none_after : (s : S) → e.after s [] ≡ s
  pub told : (s : S) (ds es : List D) → e.tells s (ds ++ es) ≡ e.tells s ds ++ e.tells (e.after s ds) es
  pub after : (s : S) (ds es : List D) → e.after s (ds ++ es) ≡ e.after (e.after s ds) es

-- From this state on they tell the same, and leave the same state.
pub record AreAlike {S D : Type 0} (e : Effects S D) (s : S) (ds es : List D) : Type 0 where
  pub told : e.tells s ds ≡ e.tells s es
  pub left : e.after s ds ≡ e.after s es

-- ---- what plays a script, one call at a time

-- the sink failed, or memory ran out
abbrev pub IsWant : Status → Type 0
IsWant status = (status ≡ statuses.Write) ⊎ (status ≡ statuses.NoMemory)

-- All that waited was told, and nothing waits; or a prefix of it was told. At most so many deeds wait.
abbrev pub IsSettled : {S D : Type 0} → Result (Unit {0}) Status → Effects S D → ℕ → S → List D → List D → (S → Type 0) → List ℕ → Type 0
IsSettled (Ok u) e batch s waited waits stands out = (out ≡ e.tells s waited) × (waits ≡ []) × stands (e.after s waited)
IsSettled (Err status) e batch s waited waits stands out = IsWant status × IsPrefixOf out (e.tells s waited) × (length waited ≤ batch)

-- The line gave these deeds, for which these octets were drawn. Of what is like those that waited and these, some were
-- told, and the others wait.
pub record IsTaken {S D : Type 0} (e : Effects S D) (gives : List ℕ → Option (Given D)) (s : S) (waited waits : List D) (stands : S → Type 0) (draws out : List ℕ) : Type 0 where
  pub fresh : List D
  pub told : List D
  pub goes : (more : List ℕ) → gives (draws ++ more) ≡ Some (record { deeds = fresh; left = more })
  pub alike : AreAlike e s (waited ++ fresh) (told ++ waits)
  pub written : out ≡ e.tells s told
  pub left : stands (e.after s told)

-- the deeds, where there are any
abbrev pub deeds_of : {D : Type 0} → Option (Given D) → List D
deeds_of None = []
deeds_of (Some g) = g.deeds

-- A prefix was told of what those that waited and the line's deeds tell: so many deeds at most.
pub record IsCutShort {S D : Type 0} (e : Effects S D) (gives : List ℕ → Option (Given D)) (batch : ℕ) (s : S) (waited : List D) (draws out : List ℕ) : Type 0 where
  pub told : IsPrefixOf out (e.tells s (waited ++ deeds_of (gives draws)))
  pub few : length (waited ++ deeds_of (gives draws)) ≤ batch

-- The line lacks noise, and none was drawn. All that waited was told.
pub record IsUnsupplied {S D : Type 0} (e : Effects S D) (gives : List ℕ → Option (Given D)) (s : S) (waited : List D) (draws out : List ℕ) : Type 0 where
  pub drew : draws ≡ []
  pub stops : gives [] ≡ None
  pub told : out ≡ e.tells s waited

abbrev pub IsPlayed : {S D : Type 0} → Result (Unit {0}) Status → Effects S D → (List ℕ → Option (Given D)) → ℕ → S → List D → List D → (S → Type 0) → List ℕ → List ℕ → Type 0
IsPlayed (Ok u) e gives batch s waited waits stands draws out = IsTaken e gives s waited waits stands draws out
IsPlayed (Err statuses.Noise) e gives batch s waited waits stands draws out = IsUnsupplied e gives s waited draws out
IsPlayed (Err statuses.Write) e gives batch s waited waits stands draws out = IsCutShort e gives batch s waited draws out
IsPlayed (Err statuses.NoMemory) e gives batch s waited waits stands draws out = IsCutShort e gives batch s waited draws out
IsPlayed (Err other) e gives batch s waited waits stands draws out = ⊥

-- The status is that end, and all that waited was told; or telling failed, and a prefix of it was.
abbrev pub Closes : {S D : Type 0} → Status → Status → Effects S D → ℕ → S → List D → List ℕ → Type 0
Closes end status e batch s waited out =
    ((status ≡ end) × (out ≡ e.tells s waited)) ⊎ (IsWant status × IsPrefixOf out (e.tells s waited) × (length waited ≤ batch))

-- ---- the loop

-- how a script is read whose lines are spelled so, and of which each gives this
abbrev pub ways_of : {L D : Type 0} → Spelling L → (ℕ → L → ℕ) → (L → Bool) → (L → List ℕ → Option (Given D)) → Ways L D
ways_of spelled followed last gives = record { spelled = spelled; followed = followed; is_last = last; gives = gives }

-- the same of the lines that every script may have, of which none is the last
abbrev pub of_lines : {D : Type 0} → (Line → List ℕ → Option (Given D)) → Ways Line D
of_lines gives = ways_of line_of version_after (λ l. false) gives

-- The course ends there, no octet was drawn besides, and all that it tells was written.
pub record IsAll {L D : Type 0} (w : Ways L D) (tells : List D → List ℕ) (octets draws out : List ℕ) (stop : Stop) : Type 0 where
  pub stops : (course w octets draws).stop ≡ stop
  pub left : (course w octets draws).left ≡ []
  pub told : out ≡ tells (course w octets draws).deeds

-- Whole lines were read, which have no fault and need no more noise, and behind them octets without a line end. All that
-- the lines tell was written.
pub record AreTold {L D : Type 0} (w : Ways L D) (tells : List D → List ℕ) (octets draws out : List ℕ) : Type 0 where
  pub lines : List ℕ
  pub part : List ℕ
  pub split : octets ≡ lines ++ part
  pub unended : NoEnd part
  pub near : length part ≤ 74097
  pub all : IsAll w tells lines draws out BehindAll

-- no line is the last
abbrev pub HasNoLast : {D : Type 0} → Course D → Type 0
HasNoLast c = (at : ℕ) → ¬ (c.stop ≡ AtCapture at)

-- Of the octets that were read these were played, and those were ahead: a line and what the buffer holds, at most. What the
-- former tell was written but for the batch under way, at most so many deeds, of which a prefix was.
pub record IsCut {L D : Type 0} (w : Ways L D) (tells : List D → List ℕ) (batch : ℕ) (octets draws out : List ℕ) : Type 0 where
  pub played : List ℕ
  pub ahead : List ℕ
  pub split : octets ≡ played ++ ahead
  pub near : length ahead ≤ 74097
  pub no_last : HasNoLast (course w played draws)
  pub told : List D
  pub late : List D
  pub alike : tells (course w played draws).deeds ≡ tells (told ++ late)
  pub few : length late ≤ batch
  pub begun : IsPrefixOf (tells told) out
  pub within : IsPrefixOf out (tells (told ++ late))

-- The status, by the octets read, drawn and written, and by what the source has left. With Done all is told and the source is
-- at its end. With Script the lines before the named one are told, and that is the first outside the grammar, with its first
-- fault, whatever would come behind what was read; Unended comes only at the source's end. With Noise a draw comes next.
-- Where the source failed, all whole lines that were read are told. Where telling failed, nothing before the batch under way
-- is lost.
abbrev pub LoopEnds : {L D : Type 0} → Ways L D → (List D → List ℕ) → ℕ → Status → List ℕ → List ℕ → List ℕ → Tally → Type 0
LoopEnds w tells batch statuses.Done octets draws out left = IsAll w tells octets draws out BehindAll × AtEnd left
LoopEnds w tells batch (statuses.Script n fault) octets draws out left =
    IsAll w tells octets draws out (AtFault n fault) × (fault ≡ Unended → AtEnd left)
    × (¬ (fault ≡ Unended) → (more : List ℕ) → course w (octets ++ more) draws ≡ course w octets draws)
LoopEnds w tells batch statuses.Noise octets draws out left = IsAll w tells octets draws out ForDraw
LoopEnds w tells batch statuses.Read octets draws out left = AreTold w tells octets draws out
LoopEnds w tells batch statuses.Write octets draws out left = IsCut w tells batch octets draws out
LoopEnds w tells batch statuses.NoMemory octets draws out left = IsCut w tells batch octets draws out
LoopEnds w tells batch other octets draws out left = ⊥

-- ---- what plays each line at once

-- Of the octets that were read these lines, which have no fault and need no more noise, were told, then this line was under
-- way, or none was, and those octets were ahead: with that line, a line and what the buffer holds at most. Of what the line
-- under way tells a prefix was written.
pub record IsCutLine {L D : Type 0} (w : Ways L D) (tells : List D → List ℕ) (octets draws out : List ℕ) : Type 0 where
  pub lines : List ℕ
  pub line : List ℕ
  pub ahead : List ℕ
  pub split : octets ≡ lines ++ (line ++ ahead)
  pub one : IsWhole line ⊎ (line ≡ [])
  pub near : length (line ++ ahead) ≤ 74097
  pub sound : (course w lines draws).stop ≡ BehindAll
  pub begun : IsPrefixOf (tells (course w lines draws).deeds) out
  pub within : IsPrefixOf out (tells (course w (lines ++ line) draws).deeds)

-- ---- a run of the loop

-- what a source, a sink and a source of noise tell
pub record Tellings : Type 0 where
  pub left : Tally
  pub written : Tally
  pub drawn : Tally

-- Whole lines were read, and behind them octets without a line end. All that the lines tell was written, and whatever would
-- stand behind them goes on so.
pub record IsUnended {L D : Type 0} (w : Ways L D) (tells : List D → List ℕ) (octets draws out : List ℕ) : Type 0 where
  pub lines : List ℕ
  pub part : List ℕ
  pub split : octets ≡ lines ++ part
  pub unended : NoEnd part
  pub deeds : List D
  pub told : out ≡ tells deeds
  pub version : ℕ
  pub number : ℕ
  pub offset : ℕ
  pub goes : (rest : List ℕ) → course w (lines ++ rest) draws ≡ with_deeds deeds (course_from w version number offset (lines_of rest) [])

-- The loop read these octets, of which there are at most 2^30 + 1, drew these, and wrote those. What plays each line at once
-- loses nothing but of the line under way.
pub record IsRun {L D : Type 0} (w : Ways L D) (tells : List D → List ℕ) (batch : ℕ) (is_prompt : Bool) (status : Status) (old new : Tellings) (octets draws out : List ℕ) : Type 0 where
  pub took : TookIn old.left new.left octets
  pub drew : Added old.drawn new.drawn draws
  pub wrote : Wrote old.written new.written out
  pub ends : LoopEnds w tells batch status octets draws out new.left
  pub at_once : is_prompt ≡ true → IsCutLine w tells octets draws out
  pub unended : status ≡ statuses.Read → IsUnended w tells octets draws out
  pub bound : length octets ≤ 2 ^ 30 + 1

-- The lines up to the last were read, and more octets, which wait. All that the lines tell was written, and what plays stands
-- for the state behind them.
pub record IsBehindLast {L D S : Type 0} (w : Ways L D) (e : Effects S D) (begun : S) (old new : Tellings) (script : Reading) (stands_for : S → Type 0) (octets draws out : List ℕ) : Type 0 where
  pub lines : List ℕ
  pub last : L
  pub is_last : w.is_last last ≡ true
  pub deeds : List D
  pub split : octets ≡ lines ++ script.waits
  pub size : length lines ≡ script.offset
  pub within : script.offset ≤ 2 ^ 30
  pub near : length script.waits ≤ 4096
  pub room : length octets + script.budget ≡ 2 ^ 30 + 1
  pub took : TookIn old.left new.left octets
  pub drew : Added old.drawn new.drawn draws
  pub wrote : Wrote old.written new.written out
  pub goes : (rest : List ℕ) → course w (lines ++ rest) draws ≡ with_deeds deeds (ended (AtCapture script.offset) [])
  pub told : out ≡ e.tells begun deeds
  pub stands : stands_for (e.after begun deeds)

-- The loop came behind the last line, or it ended before with this status.
abbrev pub IsScriptPlayed : {L D S : Type 0} → Result (Unit {0}) Status → Ways L D → Effects S D → S → ℕ → Bool → Tellings → Tellings → Reading → (S → Type 0) → List ℕ → List ℕ → List ℕ → Type 0
IsScriptPlayed (Ok u) w e begun batch is_prompt old new script stands octets draws out = IsBehindLast w e begun old new script stands octets draws out
IsScriptPlayed (Err status) w e begun batch is_prompt old new script stands octets draws out = IsRun w (e.tells begun) batch is_prompt status old new octets draws out

-- Where the source's octets have no fault, whatever is drawn, the loop plays them to their end, or memory runs out.
abbrev pub IsCompleteRun : {L D : Type 0} → Ways L D → Status → Tally → Tally → Type 0
IsCompleteRun w status left left' = (all rest : List ℕ) → left.told ≡ Some all → left'.told ≡ Some rest
    → ((draws : List ℕ) (n : ℕ) (fault : ScriptFault) → ¬ ((course w all draws).stop ≡ AtFault n fault)) → (status ≡ statuses.Done) ⊎ (status ≡ statuses.NoMemory)
