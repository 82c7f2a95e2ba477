-- What two generations' sides give of one datagram.
use Rattle.std.specs.Prelude.{◌≡◌, ℕ, List, Result, Ok, Err}
use Rattle.sg_base.specs.declared.faults.DropCause.{DropCause}
use Rattle.sg_base.specs.declared.faults.DropCause.TheVariants.{PortUnused}
use Rattle.sg_session.specs.Opening.{Taken}
use Rattle.sg_session.specs.Session.{Done}
use Rattle.sg_media.specs.Sides.{SideValue}
use Rattle.sg_media.specs.Steps.{SideTakes}
use Rattle.sg_media.specs.declared.either.Which.{Which}
use Rattle.sg_media.specs.declared.either.Which.TheVariants.{Current, Earlier}
use Rattle.sg_media.specs.declared.inbound.Opened.{Opened}

-- what the current one opens, else what the earlier one opens, else the current one's cause
abbrev pub first_opened : Result Opened (List ℕ × DropCause) → Result Opened (List ℕ × DropCause) → Result (Which × Opened) (List ℕ × DropCause)
first_opened (Ok o) other = Ok (Current, o)
first_opened (Err e) (Ok o) = Ok (Earlier, o)
first_opened (Err e) (Err f) = Err e

-- what the earlier one takes: nothing, where the current one has taken it
abbrev pub if_refused : Result Taken DropCause → Result Taken DropCause → Result Taken DropCause
if_refused (Ok t) r = Err PortUnused
if_refused (Err cause) r = r

-- the one that opened it has then taken it, and the other is as it was
abbrev pub OneTakes : Which → Done → SideValue → SideValue → SideValue → SideValue → Type 0
OneTakes Current entry current current' earlier earlier' = SideTakes current current' entry × (earlier' ≡ earlier)
OneTakes Earlier entry current current' earlier earlier' = (current' ≡ current) × SideTakes earlier earlier' entry
