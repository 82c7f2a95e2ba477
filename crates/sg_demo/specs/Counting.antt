-- The numbers of the demonstration.
use Rattle.std.specs.Prelude.{ℕ, ◌+◌, Bool, true, false, List, [], ◌∷◌, Option, Some, None, slice_get, set, is_ok}
use Rattle.sg_base.specs.declared.faults.DropCause.{DropCause}
use Rattle.sg_base.specs.declared.faults.DropCause.TheVariants as cause
use Rattle.sg_outcome.specs.declared.outcomes.Outcome.{Outcome}
use Rattle.sg_outcome.specs.declared.outcomes.Outcome.TheVariants.{Out, Dropped}
use Rattle.sg_session.specs.Opening.{opens}
use Rattle.sg_demo.specs.Callers.{Caller, after_opening}
use Rattle.sg_demo.specs.declared.origin.Origin.{Origin}
use Rattle.sg_demo.specs.declared.origin.Origin.TheVariants as origin
use Rattle.sg_demo.specs.declared.summary.Summary.{Summary}

abbrev pub none_counted : Summary
none_counted = record { calls = 0; sealed = 0; arrived = 0; out = 0; repeat = 0; badtag = 0; other = 0; sent = 0; opened = 0 }

-- the numbers so far, and the calls, whose peers open what they count
pub record Count : Type 0 where
  pub callers : List Caller
  pub summary : Summary

-- ---- a datagram that arrived at a secure port

abbrev pub dropped_for : DropCause → Summary → Summary
dropped_for cause.Repeat s = record s { arrived = s.arrived + 1; repeat = s.repeat + 1 }
dropped_for cause.BadTag s = record s { arrived = s.arrived + 1; badtag = s.badtag + 1 }
dropped_for other s = record s { arrived = s.arrived + 1; other = s.other + 1 }

abbrev pub peers_counted : Outcome → Summary → Summary
peers_counted (Out port to octets) s = record s { arrived = s.arrived + 1; out = s.out + 1 }
peers_counted (Dropped port why) s = dropped_for why s
peers_counted other s = record s { arrived = s.arrived + 1; other = s.other + 1 }

-- ---- a plain packet that arrived; where it is dropped, nothing is counted

abbrev pub sealed_counted : Bool → Summary → Summary
sealed_counted true s = record s { sent = s.sent + 1; opened = s.opened + 1 }
sealed_counted false s = record s { sent = s.sent + 1 }

-- the peer of the call at this position tries to open what the gateway has sealed
abbrev pub checked_by : Option Caller → ℕ → List ℕ → Count → Count
checked_by None position octets k = record k { summary = sealed_counted false k.summary }
checked_by (Some c) position octets k = record {
  callers = set k.callers position (after_opening octets c);
  summary = sealed_counted (is_ok (opens c.opening octets)) k.summary;
}

abbrev pub plain_counted : ℕ → Outcome → Count → Count
plain_counted position (Out port to octets) k = checked_by (slice_get k.callers position) position octets k
plain_counted position other k = k

-- ---- all that arrived

abbrev pub counted_of : Origin → Outcome → Count → Count
counted_of origin.Peer told k = record k { summary = peers_counted told k.summary }
counted_of (origin.Plain position) told k = plain_counted position told k

-- what the gateway told of each arrival, counted in order
abbrev pub counted : List Origin → List Outcome → Count → Count
counted [] told k = k
counted (o ∷ os) [] k = k
counted (o ∷ os) (t ∷ ts) k = counted os ts (counted_of o t k)
