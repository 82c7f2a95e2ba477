use Rattle.std.proofs.Common.{Ok, Err, subst}
use Rattle.sg_leg.specs.Installing.{IsKeyed}
use Rattle.sg_leg.specs.Planned.{planned_sides}
use Rattle.sg_leg.proofs.Answered.{given, not_given}
use Rattle.sg_leg.proofs.Installs.{begins}
use Rattle.sg_leg.proofs.offered.Offered.new_generation.Goals as goal

pub returns-in-Ok-settle-clause-given : goal.returns-in-Ok-settle-clause-given
returns-in-Ok-settle-clause-given c = λ offer call generation ring is stand.
    given c.args.self.now.slot offer c.args.noise.now c.args.text.now call generation ring c.in-Ok.agreed.0 c.in-Ok.agreed.1 (c.in-Ok.ensures.agreed offer is) (planned_sides c.in-Ok-settle.sides.items) c.settle.new.ring
    (begins call generation ring c.in-Ok.agreed.1 (Ok (planned_sides c.in-Ok-settle.sides.items)) c.settle.new.ring
    (subst (λ ms. IsKeyed call generation ring ms (Ok (planned_sides c.in-Ok-settle.sides.items)) c.settle.new.ring) c.as_slice.ensures (c.in-Ok-settle.ensures.keyed call generation ring stand)))

pub returns-in-Err-settle-clause-given : goal.returns-in-Err-settle-clause-given
returns-in-Err-settle-clause-given c = λ offer call generation ring is stand.
    not_given c.args.self.now.slot offer c.args.noise.now c.args.text.now call generation ring c.in-Ok.agreed.0 c.in-Ok.agreed.1 (c.in-Ok.ensures.agreed offer is) c.in-Err-settle.fault c.settle.new.ring
    (begins call generation ring c.in-Ok.agreed.1 (Err c.in-Err-settle.fault) c.settle.new.ring
    (subst (λ ms. IsKeyed call generation ring ms (Err c.in-Err-settle.fault) c.settle.new.ring) c.as_slice.ensures (c.in-Err-settle.ensures.keyed call generation ring stand)))
