use Rattle.std.proofs.Common.{Ok, Err, subst}
use Rattle.sg_agreement.specs.Generations.{sessions_from}
use Rattle.sg_leg.specs.Installing.{IsKeyed}
use Rattle.sg_leg.specs.Planned.{ArePlanned, planned, planned_sides}
use Rattle.sg_leg.proofs.Answered.{given, not_given}
use Rattle.sg_leg.proofs.Installs.{begins, keyed_as}
use Rattle.sg_leg.proofs.offered.Offered.new_specs.Goals as goal

pub returns-in-Ok-settle-clause-given : goal.returns-in-Ok-settle-clause-given
returns-in-Ok-settle-clause-given c = λ offer call generation ring is stand.
    given c.args.self.now.slot offer c.args.noise.now c.args.text.now call generation ring c.in-Ok.agreed.0 c.in-Ok.agreed.1 (c.in-Ok.ensures.agreed offer is) (planned c.specs_of.result.items) c.settle.new.ring
    (begins call generation ring c.in-Ok.agreed.1 (Ok (planned c.specs_of.result.items)) c.settle.new.ring
    (keyed_as call generation c.count-first.result ring c.in-Ok.agreed.1 (planned_sides c.in-Ok-settle.sides.items) (planned c.specs_of.result.items) c.args.books.now.ring c.settle.new.ring stand c.count-first.ensures.same
    (subst (λ ms. IsKeyed call generation ring ms (Ok (planned_sides c.in-Ok-settle.sides.items)) c.settle.new.ring) c.as_slice.ensures (c.in-Ok-settle.ensures.keyed call generation ring stand))
    (subst (λ ms. ArePlanned (planned c.specs_of.result.items) (sessions_from call generation 0 c.count-first.result ms)) c.as_slice-in-Ok-settle.ensures (c.specs_of.ensures call generation))))

pub returns-in-Err-settle-clause-given : goal.returns-in-Err-settle-clause-given
returns-in-Err-settle-clause-given c = λ offer call generation ring is stand.
    not_given c.args.self.now.slot offer c.args.noise.now c.args.text.now call generation ring c.in-Ok.agreed.0 c.in-Ok.agreed.1 (c.in-Ok.ensures.agreed offer is) c.in-Err-settle.fault c.settle.new.ring
    (begins call generation ring c.in-Ok.agreed.1 (Err c.in-Err-settle.fault) c.settle.new.ring
    (subst (λ ms. IsKeyed call generation ring ms (Err c.in-Err-settle.fault) c.settle.new.ring) c.as_slice.ensures (c.in-Err-settle.ensures.keyed call generation ring stand)))
