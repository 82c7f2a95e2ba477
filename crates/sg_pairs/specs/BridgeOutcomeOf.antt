-- What a line says that a bridge tells, and which outcomes have a line.
use Rattle.std.specs.Prelude.{ℕ, ◌<◌, ◌≤◌, ◌^◌, List, ◌++◌, length, drop, nat_eq, nat_lt, ◌==◌, if◌then◌else◌, Option, Some, None, option_map, Result, Ok, Err, codes}
use Rattle.std.specs.List.{starts_with}
use Rattle.std.specs.Str.{bytes_eq}
use Rattle.sg_base.specs.Fields.{◌>>=◌, cut_at, number_at}
use Rattle.sg_base.specs.declared.addresses.CallId.{CallId}
use Rattle.sg_base.specs.declared.faults.ScriptFault.{ScriptFault}
use Rattle.sg_outcome.specs.OutcomeFields.{FitsDropCause, FitsOutcome}
use Rattle.sg_outcome.specs.OutcomeOf.{outcome_of}
use Rattle.sg_outcome.specs.declared.outcomes.Outcome.{Outcome}
use Rattle.sg_outcome.specs.declared.outcomes.Outcome.TheVariants.{Dropped}
use Rattle.sg_pairs.specs.declared.faults.JoinFault.{JoinFault}
use Rattle.sg_pairs.specs.declared.faults.JoinFault.TheVariants as faults
use Rattle.sg_pairs.specs.declared.outcomes.BridgeOutcome.{BridgeOutcome}
use Rattle.sg_pairs.specs.declared.outcomes.BridgeOutcome.TheVariants as tells

-- the number of a call
unfoldable pub call_at : List ℕ → Option CallId
call_at text = option_map (λ n. record { 0 = n }) (number_at 4294967295 text)

-- what stands before the line's end, which is 10
unfoldable pub body_at : List ℕ → Option (List ℕ)
body_at text = do
  parts ← cut_at 10 text
  if length parts.1 == 0 then Some parts.0 else None

-- two calls, with a space between them
unfoldable pub calls_at : List ℕ → Option (CallId × CallId)
calls_at text = do
  body ← body_at text
  parts ← cut_at 32 body
  first ← call_at parts.0
  second ← call_at parts.1
  Some (first, second)

-- a cause without a number
unfoldable pub plain_fault_at : List ℕ → Option JoinFault
plain_fault_at name =
    if bytes_eq name (codes "CallUnknown") then Some faults.CallUnknown
    else if bytes_eq name (codes "Same") then Some faults.Same
    else if bytes_eq name (codes "Unready") then Some faults.Unready
    else if bytes_eq name (codes "MediaCount") then Some faults.MediaCount
    else if bytes_eq name (codes "NotJoined") then Some faults.NotJoined
    else None

unfoldable pub join_fault_at : List ℕ → Option JoinFault
join_fault_at text =
    if starts_with nat_eq text (codes "Joined ") then option_map faults.Joined (call_at (drop 7 text)) else plain_fault_at text

-- a call, and why it isn't joined or parted
unfoldable pub unjoined_at : List ℕ → Option BridgeOutcome
unjoined_at text = do
  body ← body_at text
  parts ← cut_at 32 body
  call ← call_at parts.0
  cause ← join_fault_at parts.1
  Some (tells.Unjoined call cause)

abbrev pub as_table : Result Outcome ScriptFault → Option BridgeOutcome
as_table (Ok o) = Some (tells.Table o)
as_table (Err fault) = None

abbrev pub as_lost : Result Outcome ScriptFault → Option BridgeOutcome
as_lost (Ok (Dropped port cause)) = Some (tells.Lost port cause)
as_lost other = None

abbrev pub as_joined : CallId × CallId → BridgeOutcome
as_joined (first, second) = tells.Joined first second

abbrev pub as_parted : CallId × CallId → BridgeOutcome
as_parted (first, second) = tells.Parted first second

-- a line by its word, where it doesn't tell of a pair: what is lost is told in the words of a drop, and what has neither word
-- is the table's
unfoldable pub told_of_one : List ℕ → Option BridgeOutcome
told_of_one line =
    if starts_with nat_eq line (codes "unjoined ") then unjoined_at (drop 9 line)
    else if starts_with nat_eq line (codes "lost ") then as_lost (outcome_of (codes "drop " ++ drop 5 line))
    else as_table (outcome_of line)

-- a line by its word
unfoldable pub told_by_word : List ℕ → Option BridgeOutcome
told_by_word line =
    if starts_with nat_eq line (codes "joined ") then option_map as_joined (calls_at (drop 7 line))
    else if starts_with nat_eq line (codes "parted ") then option_map as_parted (calls_at (drop 7 line))
    else told_of_one line

-- a line of at most 70,000 octets
unfoldable pub bridge_outcome_of : List ℕ → Option BridgeOutcome
bridge_outcome_of line = if nat_lt 70000 (length line) then None else told_by_word line

-- ---- the outcomes that a `BridgeOutcome` in code may be

abbrev pub FitsCallId : CallId → Type 0
FitsCallId call = call.0 < 2 ^ 32

abbrev pub FitsJoinFault : JoinFault → Type 0
FitsJoinFault (faults.Joined call) = FitsCallId call
FitsJoinFault other = Unit {0}

abbrev pub FitsBridgeOutcome : BridgeOutcome → Type 0
FitsBridgeOutcome (tells.Table o) = FitsOutcome o
FitsBridgeOutcome (tells.Joined first second) = FitsCallId first × FitsCallId second
FitsBridgeOutcome (tells.Parted first second) = FitsCallId first × FitsCallId second
FitsBridgeOutcome (tells.Unjoined call cause) = FitsCallId call × FitsJoinFault cause
FitsBridgeOutcome (tells.Lost port cause) = (port ≤ 65535) × FitsDropCause cause
