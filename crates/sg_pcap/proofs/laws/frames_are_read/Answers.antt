use Rattle.sg_pcap.proofs.FrameKinds.{frame_read}
use Rattle.sg_pcap.proofs.laws.frames_are_read.Goals as goal

pub returns : goal.returns
returns c = frame_read
