use Rattle.sg_peer.proofs.peer.sealing_side.Goals as goal

pub returns : goal.returns
returns c = λ s is. c.make.ensures.stands s (c.spec.ensures.made s is)
