use Rattle.std.proofs.Common.{sym, subst}
use Rattle.sg_table.proofs.Calming.{calm_at_tick, rests_at_tick}
use Rattle.sg_table.specs.Calm.{IsCalm}
use Rattle.sg_table.specs.Standing.{TableStandsFor}
use Rattle.sg_table.specs.contracts.calls.Calls.{the_view}
use Rattle.sg_table.proofs.calls.Calls.pass.Goals as goal

pub returns-clause-told : goal.returns-clause-told
returns-clause-told c t w stands = rests_at_tick c.args.calm c.args.now c.if-calm-now.false (the_view c.self.inside) w (subst (λ t. TableStandsFor t w) (sym c.self.view_is) stands)
    (subst (IsCalm c.args.calm) (sym c.self.view_is) c.requires.calm) c.if-now-self.false

pub returns-clause-calm : goal.returns-clause-calm
returns-clause-calm c = calm_at_tick c.args.calm c.args.now c.if-calm-now.false (the_view c.self.inside) c.if-now-self.false (subst (IsCalm c.args.calm) (sym c.self.view_is) c.requires.calm)
