use Rattle.std.proofs.Common.{subst, sym, ◌∙◌}
use Rattle.sg_pcap.specs.Kinds.{IsFrame}
use Rattle.sg_pcap.proofs.EveryFrame.{every_frame}
use Rattle.sg_pcap.proofs.laws.frames_are_what_is_read.Goals as goal

pub returns : goal.returns
returns c = λ frame m octets is.
    let one = every_frame frame octets in
    subst (IsFrame frame) (sym (c.frames_are_read.ensures frame one.0 one.1) ∙ is) one.1
