use Rattle.std.proofs.Common.{◌∙◌, sym, subst}
use Rattle.sg_gateway.specs.Events.{events_of_signal, signal_of}
use Rattle.sg_gateway.specs.Runs.{world_after}
use Rattle.sg_table.proofs.Calming.{calm_at_0}
use Rattle.sg_table.proofs.Delivering.{rising_of}
use Rattle.sg_table.proofs.KeptSlots.{indexed_as_before}
use Rattle.sg_table.proofs.Stepped.{told_of_signal}
use Rattle.sg_table.specs.Standing.{TableStandsFor}
use Rattle.sg_table.proofs.table.Table.take.Goals as goal

pub index-requires-clause-rising : goal.index-requires-clause-rising
index-requires-clause-rising c =
    let (w, s) = c.self.invariant.1 in
    let told = told_of_signal c.self.inside.calls c.take.new.self w c.args.signal.now c.take.new.told.items c.requires.noise s (c.in-Ok.ensures.told w s) in
    rising_of c.calls_in_order.ensures c.take.new.self (world_after w (events_of_signal c.args.signal.now)) told.1

pub invariant_of-self-then-count-before : goal.invariant_of-self-then-count-before
invariant_of-self-then-count-before c =
    let (w, s) = c.self.invariant.1 in
    let told = told_of_signal c.self.inside.calls c.take.new.self w c.args.signal.now c.take.new.told.items c.requires.noise s (c.in-Ok.ensures.told w s) in
    ((c.index.ensures, calm_at_0 _), (world_after w (events_of_signal c.args.signal.now), told.1))

pub invariant_of-self-else-count-before : goal.invariant_of-self-else-count-before
invariant_of-self-else-count-before c =
    let (w, s) = c.self.invariant.1 in
    let answered = c.in-Ok.ensures.told w s in
    let told = told_of_signal c.self.inside.calls c.take.new.self w c.args.signal.now c.take.new.told.items c.requires.noise s answered in (
      (
        indexed_as_before c.calls_in_order.ensures c.self.inside.places c.self.inside.calls c.take.new.self w s (signal_of c.args.signal.now) answered.holds
            (sym c.count.ensures ∙ c.if-count-before.false ∙ c.count-before.ensures) c.self.invariant.0.0,
        calm_at_0 _,
      ),
      (world_after w (events_of_signal c.args.signal.now), told.1),
    )

pub returns-in-Err-clause-needs : goal.returns-in-Err-clause-needs
returns-in-Err-clause-needs c = λ w s. c.in-Err.ensures.needs w (subst (λ v. TableStandsFor v w) (sym c.self.view_is) s)

pub returns-then-count-before-clause-told : goal.returns-then-count-before-clause-told
returns-then-count-before-clause-told c = λ w s.
    let s' = subst (λ v. TableStandsFor v w) (sym c.self.view_is) s in
    told_of_signal c.self.inside.calls c.take.new.self w c.args.signal.now c.take.new.told.items c.requires.noise s' (c.in-Ok.ensures.told w s')

pub returns-else-count-before-clause-told : goal.returns-else-count-before-clause-told
returns-else-count-before-clause-told c = λ w s.
    let s' = subst (λ v. TableStandsFor v w) (sym c.self.view_is) s in
    told_of_signal c.self.inside.calls c.take.new.self w c.args.signal.now c.take.new.told.items c.requires.noise s' (c.in-Ok.ensures.told w s')
