-- No call stays idle: a tick that finds it so ends it. And what is put out keeps its call.
use Rattle.std.specs.Prelude.{◌≡◌, ℕ, ◌+◌, ◌<◌, ◌≤◌, List}
use Rattle.std.specs.List.{All, AllByRecursion, Any}
use Rattle.sg_gateway.specs.Runs.{Turn, turns, world_after, after_turn}
use Rattle.sg_gateway.specs.Step.{Event}
use Rattle.sg_gateway.specs.World.{Call, World, empty}

-- the call's latest accepted signal or packet put out was less than 60,000 ms before this moment, or at it
pub record IsBusy (now : ℕ) (c : Call) : Type 0 where
  pub past : c.moment ≤ now
  pub busy : now < c.moment + 60000

abbrev pub AreBusy : World → Type 0
AreBusy w = AllByRecursion (IsBusy w.moment) w.calls

-- in the world before each event, and in the last one
abbrev pub EachCallIsBusy : List Event → Type 0
EachCallIsBusy events = All (λ t. AreBusy t.before) (turns events) × AreBusy (world_after empty events)

-- after a packet was opened or sealed and put out, this moment is its call's own
abbrev pub PacketsKeepCalls : Turn → Type 0
PacketsKeepCalls t = All (λ e. Any (λ c. (c.serial ≡ e.session.owner.call) × (c.moment ≡ t.before.moment)) (after_turn t).calls) t.entries

abbrev pub EachPacketKeepsItsCall : List Event → Type 0
EachPacketKeepsItsCall events = All PacketsKeepCalls (turns events)
