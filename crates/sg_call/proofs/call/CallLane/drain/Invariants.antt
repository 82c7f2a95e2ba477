use Rattle.std.proofs.Common.{◌≡◌, length}
use Rattle.sg_call.proofs.Standing.{Drains}
use Rattle.sg_call.proofs.call.CallLane.drain.Given as goal

abbrev pub invariant-loop-queued : goal.invariant-loop-queued
invariant-loop-queued l = Drains l.initial.self l.self × (l.self.slot ≡ l.initial.self.slot) × (l.self.media ≡ l.initial.self.media) × (l.self.id ≡ l.initial.self.id)

abbrev pub decreases-loop-queued : goal.decreases-loop-queued
decreases-loop-queued l = length l.self.waiting
