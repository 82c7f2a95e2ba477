use Rattle.sg_front.proofs.Sharing.{as_it_was, by_shared, by_unshared, its_world, kept_or_untold, on_both_err, on_err, on_ok, unshared_step}
use Rattle.sg_front.specs.States.{IsTold}
use Rattle.sg_gateway.specs.Events.{events_of_signal}
use Rattle.std.proofs.Common.{inl}
use Rattle.sg_front.proofs.front.Front.take.Goals as goal

pub returns-in-None-clause-told : goal.returns-in-None-clause-told
returns-in-None-clause-told c = on_ok _ _ c.take.result
    (λ is s stands. by_unshared (λ front s. IsTold c.take.new.told.items front s (events_of_signal c.args.signal.now)) c.args.self.now c.self.inside.table c.take.new.self c.self.inside.mux c.self.view_is s stands
    c.in-None.is (λ w holds. unshared_step c.take.new.self w c.take.new.told.items (events_of_signal c.args.signal.now) (is w holds))) c.take.ensures.told

pub returns-in-None-clause-same : goal.returns-in-None-clause-same
returns-in-None-clause-same c = on_err _ _ c.take.result (λ is. inl (as_it_was c.args.self.now c.self.inside.table c.take.new.self c.self.inside.mux c.self.view_is is)) c.take.ensures.same

pub returns-in-None-clause-needs : goal.returns-in-None-clause-needs
returns-in-None-clause-needs c = on_err _ _ c.take.result (λ wants s stands. wants s.world (its_world c.args.self.now c.self.inside.table c.take.new.self c.self.inside.mux c.self.view_is s stands)) c.take.ensures.needs

pub returns-in-Some-clause-told : goal.returns-in-Some-clause-told
returns-in-Some-clause-told c = on_ok _ _ c.step.result
    (λ is s stands. by_shared (λ front s. IsTold c.step.new.told.items front s (events_of_signal c.args.signal.now)) c.args.self.now c.self.inside.table c.step.new.table c.self.inside.mux c.self.view_is s stands
    c.in-Some.mux c.step.new.mux c.in-Some.is is) c.step.ensures.told

pub returns-in-Some-clause-same : goal.returns-in-Some-clause-same
returns-in-Some-clause-same c = on_both_err _ _ _ c.step.result
    (λ known either. kept_or_untold c.args.self.now c.self.inside.table c.step.new.table c.self.inside.mux c.self.view_is c.in-Some.mux c.step.new.mux (events_of_signal c.args.signal.now) c.in-Some.is known either)
    c.step.ensures.known c.step.ensures.same

pub returns-in-Some-clause-needs : goal.returns-in-Some-clause-needs
returns-in-Some-clause-needs c = on_err _ _ c.step.result (λ wants s stands. wants s.world (its_world c.args.self.now c.self.inside.table c.step.new.table c.self.inside.mux c.self.view_is s stands)) c.step.ensures.needs
