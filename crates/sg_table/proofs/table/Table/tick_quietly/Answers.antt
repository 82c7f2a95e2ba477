use Rattle.std.proofs.Common.{rules, ◌≡◌, [], true, refl, sym, subst}
use Rattle.sg_gateway.specs.Events.{events_of_signal}
use Rattle.sg_gateway.specs.Runs.{world_after}
use Rattle.sg_gateway.specs.Signals.{Tick}
use Rattle.sg_lines.specs.declared.lines.Signal.TheVariants as signals
use Rattle.sg_table.proofs.KeptSlots.{indexed_as_before}
use Rattle.sg_table.proofs.Stepped.{told_of_signal}
use Rattle.sg_table.specs.Standing.{TableStandsFor}
use Rattle.sg_table.specs.Values.{AreIndexed, TableValue, shapes_of}
use Rattle.sg_table.proofs.table.Table.tick_quietly.Goals as goal

pub invariant_of-self : goal.invariant_of-self
invariant_of-self c =
    let (w, s) = c.self.invariant.1 in
    let told = told_of_signal c.self.inside.calls c.pass.new.self w (signals.Tick c.args.now) [] refl s (c.pass.ensures.told c.if-pass.true w s) in (
      (subst (λ cs. AreIndexed c.self.inside.places (shapes_of cs)) (sym c.pass.ensures.calls) c.self.invariant.0.0, c.pass.ensures.calm),
      (world_after w (events_of_signal (signals.Tick c.args.now)), told.1),
    )

pub returns-then-pass-clause-told : goal.returns-then-pass-clause-told
returns-then-pass-clause-told c t w s =
    let s' = subst (λ v. TableStandsFor v w) (sym c.self.view_is) s in
    told_of_signal c.self.inside.calls c.pass.new.self w (signals.Tick c.args.now) [] refl s' (c.pass.ensures.told c.if-pass.true w s')

pub invariant_of-self-2 : goal.invariant_of-self-2
invariant_of-self-2 c =
    let (w, s) = c.self.invariant.1 in
    let quiet : c.tick_quietly.result ≡ true = search rules in
    let was = c.pass.ensures.same c.if-pass.false in
    let here : TableStandsFor c.pass.new.self w = subst (λ (t : TableValue). TableStandsFor t w) (sym was) s in
    let answered = c.tick_quietly.ensures.told quiet w here in
    let told = told_of_signal c.pass.new.self c.tick_quietly.new.self w (signals.Tick c.args.now) [] refl here answered in (
      (
        indexed_as_before c.calls_in_order.ensures c.self.inside.places c.pass.new.self c.tick_quietly.new.self w here (Tick c.args.now) answered.holds c.tick_quietly.ensures.count
            (subst (λ (t : TableValue). AreIndexed c.self.inside.places (shapes_of t.calls)) (sym was) c.self.invariant.0.0),
        c.calm-self-inside.ensures,
      ),
      (world_after w (events_of_signal (signals.Tick c.args.now)), told.1),
    )

pub returns-clause-told : goal.returns-clause-told
returns-clause-told c t w s =
    let quiet : c.tick_quietly.result ≡ true = search rules in
    let was = c.pass.ensures.same c.if-pass.false in
    let here : TableStandsFor c.pass.new.self w = subst (λ (v : TableValue). TableStandsFor v w) (sym was) (subst (λ (v : TableValue). TableStandsFor v w) (sym c.self.view_is) s) in
    told_of_signal c.pass.new.self c.tick_quietly.new.self w (signals.Tick c.args.now) [] refl here (c.tick_quietly.ensures.told quiet w here)
