-- The trace of a run: its events, by the lines of its script and by what it took of the outside.
use Rattle.std.specs.Prelude.{ℕ, ◌+◌, ◌^◌, min, Bool, false, ◌&&◌, nat_lt, nat_le, if◌then◌else◌, List, [], ◌∷◌, ◌++◌, length, codes, Option, Some, None, Result, Ok, Err}
use Rattle.std.specs.Str.{bytes_eq}
use Rattle.sg_base.specs.declared.faults.ScriptFault.{ScriptFault}
use Rattle.sg_base.specs.declared.faults.ScriptFault.TheVariants.{Length}
use Rattle.sg_edge.specs.Links.{Received}
use Rattle.sg_lines.specs.LineOf.{line_of, version_after}
use Rattle.sg_lines.specs.ScriptLines.{lines_of}
use Rattle.sg_lines.specs.declared.lines.Line.{Line}
use Rattle.sg_lines.specs.declared.lines.Line.TheVariants as lines
use Rattle.sg_lines.specs.declared.lines.Signal.TheVariants.{Tick}
use Rattle.sg_gateway.specs.Drawn.{Supplied, supplied}
use Rattle.sg_gateway.specs.Events.{events_of}
use Rattle.sg_gateway.specs.Step.{Event}

-- which octets are the n-th line of a script of a version, or their first fault
abbrev pub Spelling : Type 0 → Type 0
Spelling L = ℕ → ℕ → List ℕ → Result L ScriptFault

-- the n-th line of a script of that version, which begins at this offset, or its first fault; a line ends within
-- the first 2^30 octets of the script
abbrev pub spelled_at : {L : Type 0} → Spelling L → ℕ → ℕ → ℕ → List ℕ → Result L ScriptFault
spelled_at spelled version n at line = if nat_lt (2 ^ 30) (at + length line) then Err Length else spelled version n line

abbrev pub line_at : ℕ → ℕ → ℕ → List ℕ → Result Line ScriptFault
line_at version n at line = spelled_at line_of version n at line

-- what a run took of the outside, each in order: readings of the clock, answers of receives, octets of noise
pub record Outside : Type 0 where
  pub readings : List ℕ
  pub receipts : List Received
  pub draws : List ℕ

-- where the events of a run end: behind the last line; before the first line outside the grammar; behind the line
-- at which a capture begins, with the capture's offset; or where a reading, a receive or a draw comes next that
-- wasn't taken
pub data Stop : Type 0 where
  AtEnd : Stop
  AtFault : ℕ → ScriptFault → Stop
  AtCapture : ℕ → Stop
  ForReading : Stop
  ForReceive : Stop
  ForDraw : Stop

-- the events of a run, where they end, and what of the outside they leave
pub record Trace : Type 0 where
  pub events : List Event
  pub stop : Stop
  pub left : Outside

abbrev pub stopped : Stop → Outside → Trace
stopped stop o = record { events = []; stop = stop; left = o }

abbrev pub with_events : List Event → Trace → Trace
with_events prefix c = record c { events = prefix ++ c.events }

-- what the rest of a run makes of the greatest reading so far and of what was not taken yet
abbrev pub Later : Type 0
Later = ℕ → Outside → Trace

-- ---- lines

-- the line's events, once it has its noise, and what follows
abbrev pub handled_as : Option Supplied → Later → Later
handled_as None later top o = stopped ForDraw o
handled_as (Some s) later top o = with_events (events_of s.line) (later top (record o { draws = s.draws }))

abbrev pub handled : Line → Later → Later
handled l later top o = handled_as (supplied o.draws l) later top o

-- ---- time

-- a reading counts as this at most
abbrev pub last_moment : ℕ
last_moment = 2085978495999

abbrev pub moment_of : ℕ → ℕ
moment_of reading = min reading last_moment

-- a moment greater than all before is a tick
abbrev pub ticks_at : ℕ → ℕ → List Event
ticks_at top moment = if nat_lt top moment then events_of (lines.Signal (Tick moment)) else []

-- ---- scripts

-- what plays the script: a replay, or one that may end in a capture
pub data Command : Type 0 where
  Replays : Command
  Captures : Command

-- the line `capture`, which isn't the first
abbrev pub says_capture : ℕ → List ℕ → Bool
says_capture n l = nat_lt 1 n && bytes_eq l (codes "capture\n")

-- a capture begins behind that line, within the first 2^30 octets of the script
abbrev pub begins_capture : Command → ℕ → ℕ → List ℕ → Bool
begins_capture Captures n at l = says_capture n l && nat_le (at + length l) (2 ^ 30)
begins_capture Replays n at l = false

-- a line, and what follows it in the script's version
abbrev pub after_line : Command → ℕ → ℕ → Result Line ScriptFault → (ℕ → Later) → Later
after_line k version n (Err fault) later top o = stopped (AtFault n fault) o
after_line k version n (Ok l) later top o = handled l (later (version_after version l)) top o

-- the lines from the n-th on, which begin at this offset, in a script of that version
abbrev pub trace_from : Command → ℕ → ℕ → ℕ → List (List ℕ) → Later
trace_from k version n at [] top o = stopped AtEnd o
trace_from k version n at (l ∷ ls) top o =
    if begins_capture k n at l then stopped (AtCapture (at + length l)) o
    else after_line k version n (line_at version n at l) (λ v. trace_from k v (n + 1) (at + length l) ls) top o

-- these octets of noise and nothing else
abbrev pub drawing : List ℕ → Outside
drawing draws = record { readings = []; receipts = []; draws = draws }

-- The trace of a replay of these octets, of which each signal without noise takes the next 304 octets drawn. The
-- first line says which version the script has.
abbrev pub replayed : List ℕ → List ℕ → Trace
replayed octets draws = trace_from Replays 1 1 0 (lines_of octets) 0 (drawing draws)
