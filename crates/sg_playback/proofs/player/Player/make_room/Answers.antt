use Rattle.std.proofs.Common.{[], refl}
use Rattle.sg_edge.proofs.Passed.{wrote_none}
use Rattle.sg_playback.proofs.Plays.{has_room}
use Rattle.sg_playback.proofs.player.Player.make_room.Goals as goal

pub returns-then-len-lt-BATCH_MOST-clause-made : goal.returns-then-len-lt-BATCH_MOST-clause-made
returns-then-len-lt-BATCH_MOST-clause-made g c = λ state stands. ([], wrote_none _, ([], refl, (refl, stands)))

pub returns-clause-made : goal.returns-clause-made
returns-clause-made g c = λ state stands. let told = c.settle.ensures.settled state stands in (told.0, told.1, has_room c.settle.result state _ _ _ told.0 told.2)
