use Rattle.std.proofs.Common.{◌∙◌, sym, ap, subst, map}
use Rattle.std.proofs.lemmas.List.{with_items_is}
use Rattle.sg_gateway.specs.Runs.{world_after}
use Rattle.sg_table.proofs.Calming.{calm_with_batch, kept_until}
use Rattle.sg_table.proofs.Delivering.{rising_of}
use Rattle.sg_table.proofs.Lent.{lent, rising, seen}
use Rattle.sg_table.specs.Batches.{IsBatched, arrived}
use Rattle.sg_table.specs.Standing.{TableStandsFor}
use Rattle.sg_table.specs.Values.{AreIndexed, shapes_of}
use Rattle.sg_table.specs.declared.table.Table.TheInside.{Inside}
use Rattle.sg_table.proofs.table.Table.handle.Goals as goal

pub handle_all-requires-clause-rising : goal.handle_all-requires-clause-rising
handle_all-requires-clause-rising g c lifetimes outlive =
    let (w, s) = c.self.invariant.1 in
    rising _ _ _ (ap (λ (t : Inside). t.calls) c.self-inside.view_is) c.deref_mut.ensures.value (rising_of c.calls_in_order.ensures c.self.inside.calls w s)

pub returns : goal.returns
returns g c w stands =
    let own = c.self-inside.inside.0.0 in
    subst (λ cs. IsBatched w c.args.arrivals.now c.handle_all.new.arrivals (record { calls = cs; books = own.books; moment = own.moment }))
    (sym (with_items_is own.by_slot c.handle_all.new.calls (c.handle_all.auto.calls ∙ c.deref_mut.ensures.len)))
    (c.handle_all.ensures.batched own.books w (lent _ _ _ w (seen _ _ _ c.self-inside.view_is c.self.view_is) c.deref_mut.ensures.value stands))

pub invariant_of-self : goal.invariant_of-self
invariant_of-self g c =
    let own = c.self-inside.inside.0.0 in
    let calls = with_items_is own.by_slot c.handle_all.new.calls (c.handle_all.auto.calls ∙ c.deref_mut.ensures.len) in
    let (w, s) = c.self.invariant.1 in
    let after = world_after w (map arrived c.args.arrivals.now) in
    let stands = subst (λ cs. TableStandsFor (record { calls = cs; books = own.books; moment = own.moment }) after) (sym calls)
    (c.handle_all.ensures.batched own.books w (lent _ _ _ w (ap (λ (t : Inside). t.calls) c.self-inside.view_is) c.deref_mut.ensures.value s)).stands in (
      (
        subst (AreIndexed c.self-inside.inside.0.1.0) (sym (ap shapes_of calls ∙ c.handle_all.ensures.shapes ∙ ap shapes_of c.deref_mut.ensures.value))
            (subst (λ (t : Inside). AreIndexed t.places (shapes_of t.calls.calls)) (sym c.self-inside.view_is) c.self.invariant.0.0),
        kept_until _ _ _ (ap (λ (t : Inside). t.calm) (sym c.self-inside.view_is))
            (calm_with_batch c.self.inside.calm c.self.inside.calls _ w c.args.arrivals.now s.holds stands.holds c.self.invariant.0.1),
      ),
      (after, stands),
    )
