use Rattle.std.proofs.Common.{◌+◌, ◌∙◌, Option, ap, sym, subst, arith}
use Rattle.sg_agreement.specs.Media.{Medium}
use Rattle.sg_leg.specs.Planned.{IsNext, planned, planned_in}
use Rattle.sg_leg.proofs.Planning.{next_some, planned_push}
use Rattle.sg_leg.proofs.offered.add_spec.Goals as goal

pub returns-in-Some-clause-next : goal.returns-in-Some-clause-next
returns-in-Some-clause-next c =
    let many = c.count.ensures in
    subst (λ (x : Option Medium). IsNext c.args.m c.args.first x (planned c.args.specs.now.items) c.args.count (planned c.push.new.self.items) (c.args.count + c.count.result)) (sym c.in-Some.is)
    (next_some c.args.m c.args.first c.args.count (c.args.count + c.count.result) c.in-Some.medium (planned c.args.specs.now.items) (planned c.push.new.self.items) (planned_in c.spec.result)
    (ap planned c.push.ensures.items ∙ planned_push c.args.specs.now.items c.spec.result) (omega (arith, many)) c.spec.ensures)
