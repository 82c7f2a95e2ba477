use Rattle.sg_srtp.proofs.outbound.Typed+states+Headed+Rtcp.number.Goals as goal

pub returns-clause-answer : goal.returns-clause-answer
returns-clause-answer c = rw (c.of_kind.ensures, ← c.stream.view_is) c.number_next.ensures.answer

pub returns-clause-taken : goal.returns-clause-taken
returns-clause-taken c = rw (c.of_kind.ensures, ← c.stream.view_is) c.number_next.ensures.taken
