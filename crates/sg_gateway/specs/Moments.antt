-- A moment comes once: a tick to the last moment again does nothing.
use Rattle.std.specs.Prelude.{◌≡◌, List, []}
use Rattle.sg_gateway.specs.Runs.{world_after}
use Rattle.sg_gateway.specs.Signals.{Tick}
use Rattle.sg_gateway.specs.Step.{Event, Signalled, step}
use Rattle.sg_gateway.specs.World.{World, empty}

-- a tick to the world's own moment tells nothing and leaves the world as it is
abbrev pub MomentHasCome : World → Type 0
MomentHasCome w = step w (Signalled (Tick w.moment)) ≡ record { outcomes = []; entries = []; world = w }

-- after these events
abbrev pub MomentComesOnce : List Event → Type 0
MomentComesOnce events = MomentHasCome (world_after empty events)
