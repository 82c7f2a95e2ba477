-- Which object's failure each status blames, and which statuses each part of a relay may answer.
use Rattle.std.specs.Prelude.{◌≡◌, ◌⊎◌, ℕ, Bool, Option, None, Result, Ok, Err}
use Rattle.sg_trace.specs.Causes.{HasFailed}
use Rattle.sg_trace.specs.declared.status.Status.{Status}
use Rattle.sg_trace.specs.declared.status.Status.TheVariants.{Write, Link, NoMemory, Clock, Noise, TurnsSpent}

-- The count of failures stays where none is told, and else has this cause.
abbrev pub IsDueTo : {T : Type 0} → Status → Result T Status → ℕ → ℕ → Option Bool → Type 0
IsDueTo own (Ok x) old new failed = new ≡ old
IsDueTo own (Err status) old new failed = HasFailed (status ≡ own) old new failed

-- the same of a link, of which a failed send is no failure
abbrev pub IsDueToLink : {T : Type 0} → Result T Status → ℕ → ℕ → Type 0
IsDueToLink r old new = IsDueTo Link r old new None

-- ---- what may be told

-- of a line that couldn't be written
abbrev pub IsOfWriting : Status → Type 0
IsOfWriting status = (status ≡ Write) ⊎ (status ≡ NoMemory)

-- of outcomes that are carried out
abbrev pub IsOfOutcomes : Status → Type 0
IsOfOutcomes status = (status ≡ Write) ⊎ (status ≡ Link) ⊎ (status ≡ NoMemory)

-- of a turn
abbrev pub IsOfTurns : Status → Type 0
IsOfTurns status = (status ≡ Clock) ⊎ IsOfOutcomes status

-- of a wait
abbrev pub IsOfWaits : Status → Type 0
IsOfWaits status = (status ≡ TurnsSpent) ⊎ IsOfTurns status

-- of a signal
abbrev pub IsOfSignals : Status → Type 0
IsOfSignals status = (status ≡ Noise) ⊎ IsOfOutcomes status

-- of a line
abbrev pub IsOfLines : Status → Type 0
IsOfLines status = (status ≡ Noise) ⊎ IsOfWaits status
