use Rattle.std.proofs.Common.{length}
use Rattle.sg_playback.proofs.player.keep_pads.Given as goal

abbrev pub decreases-told : goal.decreases-told
decreases-told l = length l.told.items
