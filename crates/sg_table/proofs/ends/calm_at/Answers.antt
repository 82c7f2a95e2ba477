use Rattle.std.proofs.Common.{◌∙◌, ◌+◌, ◌-◌, ◌^◌, min, ap, sym, subst}
use Rattle.sg_table.proofs.Calming.{rests_gone, rests_yet}
use Rattle.sg_table.specs.Calm.{Rests}
use Rattle.sg_table.proofs.ends.calm_at.Goals as goal

pub returns-then-past-last : goal.returns-then-past-last
returns-then-past-last c = rests_gone c.saturating_add-idle.result c.saturating_add-past.result c.args.last c.args.call.now.moment c.args.call.now.replaced
    (c.saturating_add-idle.ensures ∙ ap (λ n. min (n + 60000) (2 ^ 64 - 1)) c.moment.ensures) (c.saturating_add-past.ensures ∙ ap (λ n. min (n + 2000) (2 ^ 64 - 1)) c.replaced.ensures) c.if-past-last.true c.requires

pub returns : goal.returns
returns c = subst (λ n. Rests n c.args.last c.args.call.now.moment c.args.call.now.replaced) (sym c.min.ensures)
    (rests_yet c.saturating_add-idle.result c.saturating_add-past.result c.args.last c.args.call.now.moment c.args.call.now.replaced
    (c.saturating_add-idle.ensures ∙ ap (λ n. min (n + 60000) (2 ^ 64 - 1)) c.moment.ensures) (c.saturating_add-past.ensures ∙ ap (λ n. min (n + 2000) (2 ^ 64 - 1)) c.replaced.ensures))
