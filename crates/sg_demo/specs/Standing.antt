-- What the code of the demonstration stands for.
use Rattle.std.specs.Prelude.{◌≡◌, ℕ, ◌≤◌, ◌%◌, ◌^◌, Bool, List, Option, Some, None, is_ok}
use Rattle.std.specs.List.{AllZip}
use Rattle.sg_base.specs.declared.faults.DropCause.TheVariants.{PortUnused}
use Rattle.sg_media.specs.Sides.{StandsFor}
use Rattle.sg_outcome.specs.declared.outcomes.Outcome.{Outcome}
use Rattle.sg_outcome.specs.declared.outcomes.Outcome.TheVariants.{Dropped}
use Rattle.sg_session.specs.Opening.{opens}
use Rattle.sg_table.specs.Batches.{octets_of}
use Rattle.sg_table.specs.Handling.{outcome_by}
use Rattle.sg_table.specs.declared.arrival.Arrival.{Arrival}
use Rattle.sg_call.specs.declared.handled.End.{End}
use Rattle.sg_demo.specs.Callers as demo
use Rattle.sg_demo.specs.Counting.{Count}
use Rattle.sg_demo.specs.declared.caller.Caller.{Caller}
use Rattle.sg_demo.specs.declared.summary.Summary.{Summary}

pub record CallerStandsFor (caller : Caller) (c : demo.Caller) : Type 0 where
  pub ssrc : caller.ssrc ≡ c.ssrc
  pub slot : caller.slot ≡ c.slot
  pub sealing : StandsFor caller.sealing c.sealing
  pub opening : StandsFor caller.opening c.opening
  pub next : caller.next ≡ c.next % 2 ^ 32
  pub next_plain : caller.next_plain ≡ c.next_plain % 2 ^ 32
  pub last : caller.last ≡ c.last

-- the peer opens the datagram, or not
abbrev pub IsOpened : List ℕ → demo.Caller → Bool → Type 0
IsOpened d c opened = opened ≡ is_ok (opens c.opening d)

-- the calls and the numbers of a count
pub record CountStands (callers : List Caller) (summary : Summary) (k : Count) : Type 0 where
  pub each : AllZip CallerStandsFor callers k.callers
  pub same : summary ≡ k.summary

-- no number is above n
pub record IsWithin (n : ℕ) (s : Summary) : Type 0 where
  pub calls : s.calls ≤ n
  pub sealed : s.sealed ≤ n
  pub arrived : s.arrived ≤ n
  pub out : s.out ≤ n
  pub repeat : s.repeat ≤ n
  pub badtag : s.badtag ≤ n
  pub other : s.other ≤ n
  pub sent : s.sent ≤ n
  pub opened : s.opened ≤ n

-- the arrival has its pad and its end
pub record IsHandled (a : Arrival) : Type 0 where
  pub pad : List ℕ
  pub has_pad : a.pad ≡ Some pad
  pub end : End
  pub has_end : a.end ≡ Some end

-- what an arrival tells that is handled
abbrev pub told_of_end : ℕ → List ℕ → Option End → Outcome
told_of_end port octets None = Dropped port PortUnused
told_of_end port octets (Some end) = outcome_by port octets end

abbrev pub told_as : Arrival → Outcome
told_as a = told_of_end a.port (octets_of a.pad) a.end
