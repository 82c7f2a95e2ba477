-- Headers that are read, as the heads of the definitions.
use Rattle.std.specs.Prelude.{◌≡◌, Bool, Result, Ok, Err, MatchResult}
use Rattle.sg_base.specs.declared.faults.DropCause.{DropCause}
use Rattle.sg_base.specs.declared.faults.HeadFault.{HeadFault}
use Rattle.sg_session.specs.Opening.{Head, head_cause}
use Rattle.sg_states.specs.declared.header.Header.{Header}

abbrev pub head_of : Header → Head
head_of h = record { size = h.size; ssrc = h.ssrc; number = h.number; encrypted = h.encrypted }

-- what was read is what the definition says
abbrev pub IsReadAs : Result Header HeadFault → Result Head DropCause → Type 0
IsReadAs result r = MatchResult result (λ h. r ≡ Ok (head_of h)) (λ fault. r ≡ Err (head_cause fault))

-- the head of a packet that is encrypted or not
abbrev pub encrypting : Bool → Head → Head
encrypting e h = record h { encrypted = e }

abbrev pub with_encrypting : Bool → Result Head DropCause → Result Head DropCause
with_encrypting e (Ok h) = Ok (encrypting e h)
with_encrypting e (Err cause) = Err cause
