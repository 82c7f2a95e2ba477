use Rattle.sg_session.specs.declared.names.Direction.TheVariants as direction
use Rattle.sg_call.proofs.AddedRoutes.{adds_one}
use Rattle.sg_call.specs.Adding.{as_planned}
use Rattle.sg_call.proofs.making.add_sealing.Goals as goal

pub returns-clause-adds : goal.returns-clause-adds
returns-clause-adds c =
    adds_one c.args.slot (as_planned c.args.medium direction.Sealing c.args.spec c.args.secure c.args.plain) c.args.routes.now.items c.push_reserved.new.self.items c.sealing.result c.sealing.ensures c.push_reserved.ensures.items
