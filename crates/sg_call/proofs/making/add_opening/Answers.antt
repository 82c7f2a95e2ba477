use Rattle.sg_session.specs.declared.names.Direction.TheVariants as direction
use Rattle.sg_call.proofs.AddedRoutes.{adds_one}
use Rattle.sg_call.specs.Adding.{as_planned}
use Rattle.sg_call.proofs.making.add_opening.Goals as goal

pub returns-clause-adds : goal.returns-clause-adds
returns-clause-adds c secure =
    adds_one c.args.slot (as_planned c.args.medium direction.Opening c.args.spec secure c.args.plain) c.args.routes.now.items c.push_reserved.new.self.items c.opening.result (c.opening.ensures secure) c.push_reserved.ensures.items
