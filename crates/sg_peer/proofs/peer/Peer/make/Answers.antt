use Rattle.sg_peer.proofs.peer.Peer.make.Goals as goal

pub returns-clause-sealing : goal.returns-clause-sealing
returns-clause-sealing c = c.sealing_side.ensures

pub returns-clause-opening : goal.returns-clause-opening
returns-clause-opening c = c.opening_side.ensures
