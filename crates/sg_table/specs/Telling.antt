-- What a signal tells.
use Rattle.std.specs.Prelude.{◌≡◌, ◌≤◌, List}
use Rattle.sg_gateway.specs.Events.{outcomes_from}
use Rattle.sg_gateway.specs.Runs.{world_after}
use Rattle.sg_gateway.specs.Signals.{Answer}
use Rattle.sg_gateway.specs.Step.{Event}
use Rattle.sg_gateway.specs.World.{World}
use Rattle.sg_lines.specs.declared.lines.Signal.{Signal}
use Rattle.sg_lines.specs.declared.lines.Signal.TheVariants.{Tick, Psk, Manual, OfferSecure, OfferSdes, OfferMikey, Answer as Answered, Reject, Bye}
use Rattle.sg_outcome.specs.declared.outcomes.Outcome.{Outcome}
use Rattle.sg_table.specs.Standing.{Holds, TableStandsFor}
use Rattle.sg_table.specs.Values.{TableValue}

-- what is told is the answer's, and the table holds the world after it
pub record IsAnswered (told : List Outcome) (table : TableValue) (a : Answer) : Type 0 where
  pub tells : told ≡ a.outcomes
  pub holds : Holds table a.world

-- what is told of events, and the table stands for the world after them
abbrev pub IsTold : List Outcome → TableValue → World → List Event → Type 0
IsTold told table w events = (told ≡ outcomes_from w events) × TableStandsFor table (world_after w events)

-- a tick is no later than the last moment that an NTP stamp of era 0 can name (RFC 5905, 6)
abbrev pub IsTimely : Signal → Type 0
IsTimely (Tick now) = now ≤ 2085978495999
IsTimely (Psk own peer key) = Unit {0}
IsTimely (Manual call secure plain roc window from_peer to_peer) = Unit {0}
IsTimely (OfferSecure call noise text) = Unit {0}
IsTimely (OfferSdes call noise text) = Unit {0}
IsTimely (OfferMikey call peer noise text) = Unit {0}
IsTimely (Answered call noise text) = Unit {0}
IsTimely (Reject call) = Unit {0}
IsTimely (Bye call) = Unit {0}
