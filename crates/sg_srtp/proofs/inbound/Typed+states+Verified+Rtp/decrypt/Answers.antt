use Rattle.sg_srtp.proofs.inbound.Typed+states+Verified+Rtp.decrypt.Goals as goal

pub returns-clause-opened : goal.returns-clause-opened
returns-clause-opened c = rw (← c.self.view_is) c.decrypt.ensures.opened

pub returns-clause-stream : goal.returns-clause-stream
returns-clause-stream c = rw (← c.self.view_is, ← c.stream.view_is) c.decrypt.ensures.stream
