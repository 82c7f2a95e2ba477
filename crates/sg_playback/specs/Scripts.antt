-- How a player plays the lines of a script by its workers.
use Rattle.std.specs.Prelude.{◌≡◌, ◌≤◌, ℕ, Bool, false, List, [], length, Option, Some, None, Result, Ok, Err, IfErr, OnOk}
use Rattle.sg_edge.specs.Links.{Added}
use Rattle.sg_edge.specs.Told.{Tally, Wrote}
use Rattle.sg_front.specs.States.{FrontStandsFor, State}
use Rattle.sg_gateway.specs.Step.{Event}
use Rattle.sg_lines.specs.LineText.{FitsLine}
use Rattle.sg_lines.specs.declared.lines.Line.{Line}
use Rattle.sg_playback.specs.Playing.{Playing, effects, text_from, waiting}
use Rattle.sg_playback.specs.Replay.{gives}
use Rattle.sg_trace.specs.Causes.{IsCaused}
use Rattle.sg_trace.specs.Course.{Given, Ways}
use Rattle.sg_trace.specs.Loop.{IsBehindLast, IsPlayed, IsRun, IsSettled, IsWant, Tellings}
use Rattle.sg_trace.specs.Reading.{Reading}
use Rattle.sg_trace.specs.declared.status.Status.{Status}
use Rattle.sg_trace.specs.declared.status.Status.TheVariants.{Noise, Write}

-- what is given by what a player plays of a line
abbrev pub gives_of : Option Line → List ℕ → Option (Given Event)
gives_of (Some l) = gives l
gives_of None = λ draws. Some (record { deeds = []; left = draws })

-- A player took a line, by what its sink and its source of noise tell before and behind it.
pub record HasPlayed (line : Line) (result : Result (Unit {0}) Status) (old new : Playing) (written written' drawn drawn' : Tally) (sink sink' : ℕ) (sink_failed : Option Bool) (noise noise' : ℕ) (noise_failed : Option Bool) : Type 0 where
  pub played : (s : State) → FrontStandsFor old.front s → (draws out : List ℕ) × Added drawn drawn' draws × Wrote written written' out
      × IsPlayed result effects (gives line) 258 s (waiting old) (waiting new) (FrontStandsFor new.front) draws out
  pub rest : OnOk result (length new.waits ≤ 256)
  pub write : IsCaused Write result sink sink' sink_failed
  pub drew : IsCaused Noise result noise noise' noise_failed

-- A player told what waited, by what its sink tells before and behind it.
pub record HasSettled (result : Result (Unit {0}) Status) (old new : Playing) (written written' : Tally) (sink sink' : ℕ) (sink_failed : Option Bool) : Type 0 where
  pub settled : (s : State) → FrontStandsFor old.front s → (out : List ℕ) × Wrote written written' out × IsSettled result effects 258 s (waiting old) (waiting new) (FrontStandsFor new.front) out
  pub only : IfErr result (λ status. IsWant status)
  pub write : IsCaused Write result sink sink' sink_failed

-- What plays lines and settles so does it as a player does, and the player stands for the state. The others say what a
-- player, a sink and a source of noise tell.
abbrev pub IsStaffed : {P K N : Type 0} → (P → Line → K → N → Type 0) → (P → Line → K → N → Result (Unit {0}) Status → P → K → N → Type 0) → (P → K → Type 0) → (P → K → Result (Unit {0}) Status → P → K → Type 0)
    → (P → Playing) → (K → Tally) → (K → ℕ) → (K → Option Bool) → (N → Tally) → (N → ℕ) → (N → Option Bool) → Playing → State → Type 0
IsStaffed may_play plays may_settle settles player written sink sink_failed drawn noise noise_failed now s =
    ((p : _) (l : Line) (k : _) (n : _) → ((version number : ℕ) × FitsLine version number l) → may_play p l k n)
    × ((p : _) (l : Line) (k : _) (n : _) (r : Result (Unit {0}) Status) (p' : _) (k' : _) (n' : _) → plays p l k n r p' k' n'
    → HasPlayed l r (player p) (player p') (written k) (written k') (drawn n) (drawn n') (sink k) (sink k') (sink_failed k') (noise n) (noise n') (noise_failed n'))
    × ((p : _) (k : _) → may_settle p k)
    × ((p : _) (k : _) (r : Result (Unit {0}) Status) (p' : _) (k' : _) → settles p k r p' k'
    → HasSettled r (player p) (player p') (written k) (written k') (sink k) (sink k') (sink_failed k'))
    × FrontStandsFor now.front s × (length now.waits ≤ 256)

-- The player is behind the last line of the script, and nothing waits; or the run ended before, with this status.
abbrev pub IsScriptPlayed : {L : Type 0} → Result Playing Status → Ways L Event → State → Tellings → Tellings → Reading → List ℕ → List ℕ → List ℕ → Type 0
IsScriptPlayed (Ok player) w begun old new script octets draws out = IsBehindLast w effects begun old new script (FrontStandsFor player.front) octets draws out × (waiting player ≡ [])
IsScriptPlayed (Err status) w begun old new script octets draws out = IsRun w (text_from begun) 258 false status old new octets draws out
