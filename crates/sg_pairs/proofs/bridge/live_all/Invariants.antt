use Rattle.std.proofs.Common.{◌≡◌, ◌++◌, map, take, drop}
use Rattle.sg_pairs.specs.Pairs.{now_live}
use Rattle.sg_pairs.proofs.bridge.live_all.Given as goal

abbrev pub invariant-loop-member : goal.invariant-loop-member
invariant-loop-member l = l.member-items ≡ map (now_live l.id) (take l.member-index l.initial.member-items) ++ drop l.member-index l.initial.member-items
