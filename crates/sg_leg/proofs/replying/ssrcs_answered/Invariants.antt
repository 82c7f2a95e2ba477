use Rattle.std.proofs.Common.{◌≡◌, ◌++◌, ◌≤◌, drop, length}
use Rattle.sg_agreement.specs.MessageAnswers.{ssrcs_answered}
use Rattle.sg_leg.proofs.replying.ssrcs_answered.Given as goal

abbrev pub invariant-loop-m : goal.invariant-loop-m
invariant-loop-m l = (l.ssrcs.items ++ ssrcs_answered l.side (drop l.m l.offered) (drop l.m l.answered) ≡ ssrcs_answered l.side l.offered l.answered) × (length l.ssrcs.items ≤ l.m)
