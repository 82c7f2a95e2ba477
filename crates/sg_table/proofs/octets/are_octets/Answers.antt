use Rattle.sg_gateway.proofs.ToldInWorld.{octets_stay}
use Rattle.sg_table.proofs.octets.are_octets.Goals as goal

pub returns : goal.returns
returns c = octets_stay c.args.octets.now (λ i. (c.type_inv.octets i).fits)
