use Rattle.std.proofs.Common.{◌∙◌, [], ◌∷◌, sym, ap, subst}
use Rattle.std.proofs.Math.ListN.{set}
use Rattle.std.proofs.lemmas.List.{length-set, with_items_is}
use Rattle.sg_base.specs.declared.faults.DropCause.TheVariants.{PortUnused}
use Rattle.sg_call.specs.declared.handled.End.TheVariants.{Dropped}
use Rattle.sg_gateway.specs.Octets.{as_octets}
use Rattle.sg_gateway.specs.Runs.{world_after}
use Rattle.sg_gateway.specs.Step.{Datagram}
use Rattle.sg_table.proofs.Calming.{calm_with_datagram, kept_until}
use Rattle.sg_table.proofs.Delivering.{no_call, rising_of, shapes_set, some_call, turns_of}
use Rattle.sg_table.proofs.Lent.{lent, rising, seen}
use Rattle.sg_table.proofs.Slots.{one_changed}
use Rattle.sg_table.specs.Handling.{IsHandled}
use Rattle.sg_table.specs.Standing.{TableStandsFor}
use Rattle.sg_table.specs.Values.{AreIndexed, TableValue, shapes_of}
use Rattle.sg_table.specs.declared.table.Table.TheInside.{Inside}
use Rattle.sg_table.proofs.table.Table.datagram.Goals as goal

pub place-requires-clause-rising : goal.place-requires-clause-rising
place-requires-clause-rising c =
    let (w, s) = c.self.invariant.1 in
    rising _ _ c.as_mut_slice-calls.result.now (ap (λ (t : Inside). t.calls) c.self-inside.view_is) c.as_mut_slice-calls.ensures.value (rising_of c.calls_in_order.ensures c.self.inside.calls w s)

pub returns-in-None : goal.returns-in-None
returns-in-None c w stands =
    let calls = c.as_mut_slice-calls.result.now in
    let own = c.self-inside.inside.0.0 in
    let lends = lent _ _ calls w (seen _ _ _ c.self-inside.view_is c.self.view_is) c.as_mut_slice-calls.ensures.value stands in
    subst (λ cs. IsHandled w c.args.port c.args.from c.args.pad (record { pad = c.args.pad; end = Dropped PortUnused }) (record { calls = cs; books = own.books; moment = own.moment }))
    (sym (with_items_is own.by_slot calls c.as_mut_slice-calls.ensures.len))
    (no_call calls own.books own.moment c.args.port c.args.from c.args.pad c.holds_octets.ensures w lends (turns_of c.each_call_by_itself.ensures.calls _ w lends) (sym c.place.ensures ∙ c.in-None.is))

pub returns-in-Some : goal.returns-in-Some
returns-in-Some c w stands =
    let calls = c.as_mut_slice-calls.result.now in
    let own = c.self-inside.inside.0.0 in
    let i = c.in-Some.i in
    let at = sym c.place.ensures ∙ c.in-Some.is in
    let view = seen _ _ _ c.self-inside.view_is c.self.view_is in
    let rise = rising _ _ calls view c.as_mut_slice-calls.ensures.value (rising_of c.calls_in_order.ensures c.args.self.now w stands) in
    let (lt, made, has) = one_changed c.args.port (λ k. k) c.index-calls-i.result i calls rise at in
    let lends = lent _ _ calls w view c.as_mut_slice-calls.ensures.value stands in
    subst (λ cs. IsHandled w c.args.port c.args.from c.args.pad c.datagram.result (record { calls = cs; books = own.books; moment = own.moment }))
    (sym (with_items_is own.by_slot (set calls i c.datagram.new.self) (length-set calls i c.datagram.new.self ∙ c.as_mut_slice-calls.ensures.len)))
    (some_call calls own.books own.moment c.args.port c.args.from c.args.pad c.holds_octets.ensures w lends (turns_of c.each_call_by_itself.ensures.calls _ w lends) rise
    i c.index-calls-i.result c.datagram.new.self c.datagram.result at c.datagram.ensures.answer c.datagram.ensures.stands c.datagram.ensures.inbox lt)

pub invariant_of-self-in-Some : goal.invariant_of-self-in-Some
invariant_of-self-in-Some c =
    let calls = c.as_mut_slice-calls.result.now in
    let same = c.datagram.ensures.same in
    let (w, s) = c.self.invariant.1 in
    let after = (returns-in-Some c w (subst (λ (t : TableValue). TableStandsFor t w) c.self.view_is s)).stands in (
      (
        subst (AreIndexed c.self-inside.inside.0.1.0)
            (sym (
            ap shapes_of (with_items_is c.self-inside.inside.0.0.by_slot (set calls c.in-Some.i c.datagram.new.self) (length-set calls c.in-Some.i c.datagram.new.self ∙ c.as_mut_slice-calls.ensures.len))
            ∙ shapes_set calls c.in-Some.i c.index-calls-i.result c.datagram.new.self (λ i. record { slot = same.0 i; media = same.1 i })
            ∙ ap shapes_of c.as_mut_slice-calls.ensures.value
            ))
            (subst (λ (t : Inside). AreIndexed t.places (shapes_of t.calls.calls)) (sym c.self-inside.view_is) c.self.invariant.0.0),
        kept_until _ _ _ (ap (λ (t : Inside). t.calm) (sym c.self-inside.view_is))
            (calm_with_datagram c.self.inside.calm c.self.inside.calls _ w c.args.port c.args.from (as_octets c.args.pad) s.holds after.holds c.self.invariant.0.1),
      ),
      (world_after w (Datagram c.args.port c.args.from (as_octets c.args.pad) ∷ []), after),
    )
