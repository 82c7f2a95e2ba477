-- What the numbers of a demonstration count, of its events at the gateway and of what the gateway tells of them.
use Rattle.std.specs.Prelude.{◌≡◌, ◌≤◌, ℕ, ◌+◌, ◌-◌, ◌%◌, ◌==◌, Bool, true, false, if◌then◌else◌, List, []}
use Rattle.std.specs.List.{count_by, flat_map}
use Rattle.sg_base.specs.declared.faults.DropCause.TheVariants.{BadTag, Repeat}
use Rattle.sg_demo.specs.declared.summary.Summary.{Summary}
use Rattle.sg_gateway.specs.Runs.{outcomes, turns}
use Rattle.sg_gateway.specs.Signals.{Manual}
use Rattle.sg_gateway.specs.Step.{Event, Datagram, Signalled}
use Rattle.sg_outcome.specs.declared.outcomes.Outcome.{Outcome}
use Rattle.sg_outcome.specs.declared.outcomes.Outcome.TheVariants.{Dropped, Made, Out}

-- ---- events

-- a call is keyed manually
abbrev pub is_manual : Event → Bool
is_manual (Signalled (Manual call)) = true
is_manual other = false

-- A datagram comes to such a port of its medium: there are four, and the first is that of RTP on the secure side, the third that
-- on the plain side.
abbrev pub comes_to : ℕ → Event → Bool
comes_to leg (Datagram port from octets) = (port - 20000) % 4 == leg
comes_to leg (Signalled signal) = false

abbrev pub comes_to_secure : Event → Bool
comes_to_secure e = comes_to 0 e

abbrev pub comes_to_plain : Event → Bool
comes_to_plain e = comes_to 2 e

-- what is told of the events of that kind
abbrev pub told_where : (Event → Bool) → List Event → List Outcome
told_where is_such events = flat_map (λ t. if is_such t.event then t.outcomes else []) (turns events)

-- ---- outcomes

abbrev pub is_made : Outcome → Bool
is_made (Made id slot media) = true
is_made other = false

abbrev pub is_out : Outcome → Bool
is_out (Out port to octets) = true
is_out other = false

abbrev pub is_repeat : Outcome → Bool
is_repeat (Dropped port Repeat) = true
is_repeat other = false

abbrev pub is_bad_tag : Outcome → Bool
is_bad_tag (Dropped port BadTag) = true
is_bad_tag other = false

-- ---- the numbers

pub record CountsWhatIsTold (calls : ℕ) (s : Summary) (events : List Event) : Type 0 where
  -- so many calls are keyed manually, of which those are counted that were made
  pub keyed : count_by is_manual events ≡ calls
  pub made : s.calls ≡ count_by is_made (outcomes events)
  -- of what came to secure ports each datagram is counted, and by what is told of it
  pub arrived : s.arrived ≡ count_by comes_to_secure events
  pub out : s.out ≡ count_by is_out (told_where comes_to_secure events)
  pub repeat : s.repeat ≡ count_by is_repeat (told_where comes_to_secure events)
  pub bad_tag : s.badtag ≡ count_by is_bad_tag (told_where comes_to_secure events)
  pub other : s.arrived ≡ s.out + s.repeat + s.badtag + s.other
  -- of what came to plain ports the packets that went out, of which the peers opened so many at most
  pub sent : s.sent ≡ count_by is_out (told_where comes_to_plain events)
  pub opened : s.opened ≤ s.sent
