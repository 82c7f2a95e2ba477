use Rattle.std.proofs.Common.{◌≡◌, ◌++◌, length}
use Rattle.sg_psk.specs.Sending.{answered_map}
use Rattle.sg_psk.proofs.sending.answered_map.Given as goal

abbrev pub invariant-media : goal.invariant-media
invariant-media l = l.entries.items ++ answered_map l.rest l.left ≡ answered_map l.map l.ssrcs

abbrev pub decreases-media : goal.decreases-media
decreases-media l = length l.rest
