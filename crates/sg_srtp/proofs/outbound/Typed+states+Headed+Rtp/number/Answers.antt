use Rattle.sg_srtp.proofs.outbound.Typed+states+Headed+Rtp.number.Goals as goal

pub returns-clause-answer : goal.returns-clause-answer
returns-clause-answer c = rw (c.of_kind.ensures, ← c.self.view_is, ← c.stream.view_is) c.number.ensures.answer

pub returns-clause-taken : goal.returns-clause-taken
returns-clause-taken c = rw (c.of_kind.ensures, ← c.stream.view_is) c.number.ensures.taken
