-- The faults of one part of an agreement, as refusals that name the medium, or 255 for the session part.
use Rattle.std.specs.Prelude.{ℕ, Option, Some, None, Result, Ok, Err}
use Rattle.sg_base.specs.declared.faults.CsFault.{CsFault}
use Rattle.sg_base.specs.declared.faults.PskFault.{PskFault}
use Rattle.sg_base.specs.declared.faults.Refusal.{Refusal}
use Rattle.sg_base.specs.declared.faults.Refusal.TheVariants as refusals
use Rattle.sg_base.specs.declared.faults.SdesFault.{SdesFault}
use Rattle.sg_mikey.specs.Reading as messages
use Rattle.sg_mikey.specs.declared.message.Message.{Message}

abbrev pub or_refusal : {X : Type 0} → Refusal → Option X → Result X Refusal
or_refusal refusal None = Err refusal
or_refusal refusal (Some x) = Ok x

abbrev pub of_sdes : {X : Type 0} → ℕ → Result X SdesFault → Result X Refusal
of_sdes medium (Ok x) = Ok x
of_sdes medium (Err fault) = Err (refusals.Sdes medium fault)

abbrev pub of_message : ℕ → Result Message messages.Place → Result Message Refusal
of_message medium (Ok m) = Ok m
of_message medium (Err place) = Err (refusals.Mikey medium place.offset place.fault)

abbrev pub of_psk : {X : Type 0} → ℕ → Result X PskFault → Result X Refusal
of_psk medium (Ok x) = Ok x
of_psk medium (Err fault) = Err (refusals.Psk medium fault)

abbrev pub of_cs : {X : Type 0} → ℕ → Result X CsFault → Result X Refusal
of_cs medium (Ok x) = Ok x
of_cs medium (Err fault) = Err (refusals.Cs medium fault)
