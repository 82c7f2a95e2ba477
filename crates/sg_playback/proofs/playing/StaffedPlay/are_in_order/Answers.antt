use Rattle.sg_playback.proofs.Alike.{events_in_order}
use Rattle.sg_playback.proofs.playing.StaffedPlay.are_in_order.Goals as goal

pub returns : goal.returns
returns g c = events_in_order
