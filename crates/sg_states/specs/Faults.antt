-- The narrow faults as causes of a drop.
use Rattle.std.specs.Prelude.{ℕ, Option, Some, None, Result, Ok, Err}
use Rattle.sg_base.specs.declared.faults.DropCause.{DropCause}
use Rattle.sg_base.specs.declared.faults.DropCause.TheVariants as cause
use Rattle.sg_states.specs.declared.faults.PlaceFault.{PlaceFault}
use Rattle.sg_states.specs.declared.faults.PlaceFault.TheVariants as place_fault
use Rattle.sg_states.specs.declared.faults.Stale.{Stale}
use Rattle.sg_states.specs.declared.faults.Stale.TheVariants as stale
use Rattle.sg_states.specs.declared.faults.NumberFault.{NumberFault}
use Rattle.sg_states.specs.declared.faults.NumberFault.TheVariants as number_fault
use Rattle.sg_states.specs.declared.faults.RtcpNumberFault.{RtcpNumberFault}
use Rattle.sg_states.specs.declared.faults.RtcpNumberFault.TheVariants as rtcp_number_fault

abbrev pub place_cause : PlaceFault → DropCause
place_cause place_fault.BeforeFirst = cause.BeforeFirst
place_cause place_fault.IndexSpent = cause.IndexSpent
place_cause place_fault.Repeat = cause.Repeat
place_cause place_fault.TooOld = cause.TooOld

abbrev pub stale_cause : Stale → DropCause
stale_cause stale.Repeat = cause.Repeat
stale_cause stale.TooOld = cause.TooOld

abbrev pub number_cause : NumberFault → DropCause
number_cause (number_fault.KeySpent number count) = cause.KeySpent number count
number_cause number_fault.BeforeFirst = cause.BeforeFirst
number_cause number_fault.IndexSpent = cause.IndexSpent
number_cause number_fault.Repeat = cause.Repeat
number_cause number_fault.TooOld = cause.TooOld

abbrev pub rtcp_number_cause : RtcpNumberFault → DropCause
rtcp_number_cause (rtcp_number_fault.KeySpent number count) = cause.KeySpent number count
rtcp_number_cause rtcp_number_fault.RtcpIndexSpent = cause.RtcpIndexSpent

-- an answer with its fault as a cause
abbrev pub told_by : {F : Type 0} → (F → DropCause) → Result ℕ F → Result ℕ DropCause
told_by of (Ok i) = Ok i
told_by of (Err fault) = Err (of fault)

-- an index that may be wanting, where none means that they are spent
abbrev pub or_spent : Option ℕ → Result ℕ DropCause
or_spent (Some i) = Ok i
or_spent None = Err cause.RtcpIndexSpent
