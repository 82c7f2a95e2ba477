use Rattle.sg_front.proofs.Sharing.{by_same, by_unshared, unshared_datagram}
use Rattle.sg_front.specs.States.{IsHandled}
use Rattle.sg_front.proofs.front.Front.datagram.Goals as goal

pub returns-in-None : goal.returns-in-None
returns-in-None c = λ s stands.
    by_unshared (λ front s. IsHandled s c.args.port c.args.from c.args.pad c.datagram.result front) c.args.self.now c.self.inside.table c.datagram.new.self c.self.inside.mux c.self.view_is s stands
    c.in-None.is (λ w holds. unshared_datagram c.datagram.new.self w c.args.port c.args.from c.args.pad c.datagram.result (c.datagram.ensures w holds))

pub returns-in-Some : goal.returns-in-Some
returns-in-Some c = λ s stands.
    by_same (λ front s. IsHandled s c.args.port c.args.from c.args.pad c.datagram-in-Some.result front) c.args.self.now c.self.inside.table c.datagram-in-Some.new.table c.self.inside.mux c.self.view_is s stands
    c.in-Some.mux c.in-Some.is c.datagram-in-Some.ensures
