use Rattle.std.proofs.Common.{subst}
use Rattle.sg_states.specs.Inbound.{IsOpened}
use Rattle.sg_srtp.proofs.inbound.Typed+states+Verified+Rtcp.decrypt.Goals as goal

pub returns-clause-opened : goal.returns-clause-opened
returns-clause-opened c = rw (← c.self.view_is) (λ key here.
    subst (λ e. IsOpened c.self.inside.state key e c.decrypt.result) c.encrypted-encrypted.ensures (c.decrypt.ensures.opened key here))

pub returns-clause-stream : goal.returns-clause-stream
returns-clause-stream c = rw (← c.self.view_is, ← c.stream.view_is) c.decrypt.ensures.stream
