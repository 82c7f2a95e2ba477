use Rattle.std.proofs.Common.{◌≡◌, ◌++◌, drop}
use Rattle.sg_agreement.specs.Keyed.{media_agreed}
use Rattle.sg_leg.proofs.answering.media_agreed.Given as goal

abbrev pub invariant-loop-m : goal.invariant-loop-m
invariant-loop-m l = l.media.items ++ media_agreed l.side (drop l.m l.offered) (drop l.m l.answered) (drop l.m l.keyed) ≡ media_agreed l.side l.offered l.answered l.keyed
