use Rattle.std.proofs.Common.{◌∙◌}
use Rattle.sg_media.proofs.Standing.{found_stream}
use Rattle.sg_media.proofs.streams.Streams.find.Goals as goal

pub returns : goal.returns
returns c = found_stream c.args.self.now.list.items c.as_slice.result.now c.args.ssrc c.position_in.result (c.as_slice.ensures.value ∙ c.requires) c.position_in.ensures
