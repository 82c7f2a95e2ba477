use Rattle.std.proofs.Common.{◌≡◌, drop, Ok}
use Rattle.std.specs.List.{AllByRecursion}
use Rattle.sg_agreement.specs.EachMedium.{each_kept}
use Rattle.sg_agreement.specs.MessageAnswers.{over_active}
use Rattle.sg_agreement.specs.Walks.{prefixed}
use Rattle.sg_leg.specs.Messages.{HasFewKeys}
use Rattle.sg_leg.specs.Replying.{keyed_as}
use Rattle.sg_leg.proofs.replying.by_streams.Given as goal

abbrev pub invariant-loop-m : goal.invariant-loop-m
invariant-loop-m l =
    AllByRecursion HasFewKeys l.left
    × (prefixed l.keyed.items (each_kept (λ k x n. Ok (keyed_as l.role x n)) l.m (drop l.m l.active) (over_active l.side (drop l.m l.offered) l.left) (drop l.m l.answer))
    ≡ each_kept (λ k x n. Ok (keyed_as l.role x n)) 0 l.active (over_active l.side l.offered l.streams) l.answer)
