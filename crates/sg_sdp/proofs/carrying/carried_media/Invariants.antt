use Rattle.std.proofs.Common.{◌≡◌, ◌++◌, drop}
use Rattle.sg_sdp.specs.Carrying.{carried_media}
use Rattle.sg_sdp.proofs.carrying.carried_media.Given as goal

abbrev pub invariant-loop-i : goal.invariant-loop-i
invariant-loop-i l = l.carried ++ carried_media (drop l.i l.ports) (drop l.i l.profiles) (drop l.i l.media) ≡ carried_media l.ports l.profiles l.media
