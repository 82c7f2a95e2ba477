use Rattle.sg_srtp.proofs.inbound.Typed+states+Keyed+Rtcp.place.Goals as goal

pub returns-clause-answer : goal.returns-clause-answer
returns-clause-answer c = rw (c.of_kind.ensures, ← c.self.view_is, ← c.stream.view_is) c.place_carried.ensures.answer
