use Rattle.std.proofs.Common.{refl}
use Rattle.sg_agreement.specs.Keying.{PeerLines}
use Rattle.sg_leg.proofs.Gives.{gives_ok}
use Rattle.sg_leg.proofs.keying.by_peer_lines.Goals as goal

pub returns-in-Ok-clause-keying : goal.returns-in-Ok-clause-keying
returns-in-Ok-clause-keying c = λ pairs. (PeerLines c.in-Ok.lines, gives_ok PeerLines _ c.in-Ok.lines c.in-Ok.ensures, record { keying = refl; session = c.new.ensures; media = c.new-in-Ok.ensures.items })
