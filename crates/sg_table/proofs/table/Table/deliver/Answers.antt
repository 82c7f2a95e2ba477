use Rattle.std.proofs.Common.{◌≡◌, ◌∙◌, ap, refl, sym, subst}
use Rattle.sg_table.proofs.InTurn.{delivered}
use Rattle.sg_table.specs.Batches.{octets_of}
use Rattle.sg_table.specs.Handling.{IsHandled}
use Rattle.sg_table.specs.Octets.{AreOctets}
use Rattle.sg_table.proofs.table.Table.deliver.Goals as goal

pub returns : goal.returns
returns c w s =
    let octets : octets_of c.args.arrival.now.pad ≡ c.in-Some.pad = ap octets_of (sym c.take.ensures.value ∙ c.in-Some.is) in
    delivered w c.args.arrival.now _ c.datagram-handled.result c.datagram-handled.new.self (subst AreOctets (sym octets) c.holds_octets.ensures)
    (subst (λ d. IsHandled w c.args.arrival.now.port c.args.arrival.now.from d c.datagram-handled.result c.datagram-handled.new.self) (sym octets) (c.datagram-handled.ensures w s)) refl
