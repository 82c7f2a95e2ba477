use Rattle.std.proofs.Common.{◌∙◌, sym, ap, subst}
use Rattle.std.specs.Option.{option_and_then}
use Rattle.sg_call.specs.Standing.{CallStandsFor}
use Rattle.sg_gateway.specs.PlainOf.{plain_of}
use Rattle.sg_table.proofs.Delivering.{rising_of}
use Rattle.sg_table.proofs.Lent.{lent, rising, seen}
use Rattle.sg_table.proofs.Found.{no_port, port_at}
use Rattle.sg_table.specs.declared.table.Table.TheInside.{Inside}
use Rattle.sg_table.proofs.table.Table.plain_of.Goals as goal

pub place-requires-clause-rising : goal.place-requires-clause-rising
place-requires-clause-rising c =
    let (w, s) = c.self.invariant.1 in
    rising _ _ c.as_slice-calls.result.now (ap (λ (t : Inside). t.calls) c.self-inside.view_is) c.as_slice-calls.ensures.value (rising_of c.calls_in_order.ensures c.self.inside.calls w s)

pub returns-in-None : goal.returns-in-None
returns-in-None c w stands =
    let lends = lent _ _ c.as_slice-calls.result.now w (seen _ _ _ c.self-inside.view_is c.self.view_is) c.as_slice-calls.ensures.value stands in
    sym (ap (option_and_then (λ k. plain_of k c.args.port)) (no_port w.books.pairs c.args.port c.as_slice-calls.result.now w.calls lends.holds.calls (sym c.place.ensures ∙ c.in-None.is)))

pub returns-in-Some : goal.returns-in-Some
returns-in-Some c w stands =
    let lends = lent _ _ c.as_slice-calls.result.now w (seen _ _ _ c.self-inside.view_is c.self.view_is) c.as_slice-calls.ensures.value stands in
    let f = port_at w.books.pairs c.args.port c.as_slice-calls.result.now w.calls c.in-Some.i lends.holds.calls (sym c.place.ensures ∙ c.in-Some.is) in
    c.plain_of.ensures w.books.pairs f.call (subst (λ k. CallStandsFor w.books.pairs k f.call) (sym c.index-calls-i.is) (f.stands c.index-calls-i.result))
    ∙ sym (ap (option_and_then (λ k. plain_of k c.args.port)) f.is_call)
