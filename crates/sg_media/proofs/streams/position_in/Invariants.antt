use Rattle.std.proofs.Common.{◌≡◌, false, take}
use Rattle.sg_replay.specs.Freshness.{is_in}
use Rattle.sg_media.proofs.streams.position_in.Given as goal

abbrev pub invariant-loop-at : goal.invariant-loop-at
invariant-loop-at l = is_in (take l.at l.row) l.ssrc ≡ false
