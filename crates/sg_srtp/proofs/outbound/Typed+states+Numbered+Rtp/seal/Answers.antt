use Rattle.sg_srtp.proofs.outbound.Typed+states+Numbered+Rtp.seal.Goals as goal

pub returns : goal.returns
returns c = rw (← c.self.view_is) c.seal.ensures
