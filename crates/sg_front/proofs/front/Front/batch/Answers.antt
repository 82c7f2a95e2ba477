use Rattle.sg_front.proofs.Sharing.{by_same, by_unshared, unshared_batch}
use Rattle.sg_front.specs.States.{IsBatched}
use Rattle.sg_front.proofs.front.Front.batch.Goals as goal

pub returns-in-None : goal.returns-in-None
returns-in-None g c = λ s stands.
    by_unshared (λ front s. IsBatched s c.args.arrivals.now c.batch.new.arrivals front) c.args.self.now c.self.inside.table c.batch.new.self c.self.inside.mux c.self.view_is s stands
    c.in-None.is (λ w holds. unshared_batch c.batch.new.self w c.args.arrivals.now c.batch.new.arrivals (c.batch.ensures.batched w holds))

pub returns-in-Some : goal.returns-in-Some
returns-in-Some g c = λ s stands.
    by_same (λ front s. IsBatched s c.args.arrivals.now c.batch-in-Some.new.arrivals front) c.args.self.now c.self.inside.table c.batch-in-Some.new.table c.self.inside.mux c.self.view_is s stands
    c.in-Some.mux c.in-Some.is c.batch-in-Some.ensures
