use Rattle.std.proofs.Common.{◌≡◌, ◌++◌, map, drop}
use Rattle.sg_agreement.specs.Answers.{lines_of}
use Rattle.sg_leg.proofs.answering.lines_of.Given as goal

abbrev pub invariant-loop-medium : goal.invariant-loop-medium
invariant-loop-medium l = l.all.items ++ map lines_of (drop l.medium-index l.keyed) ≡ map lines_of l.keyed
