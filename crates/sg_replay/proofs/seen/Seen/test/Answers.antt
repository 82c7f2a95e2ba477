use Rattle.std.proofs.Common.{◌≡◌, ◌∙◌, arith, rules, subst}
use Rattle.sg_replay.specs.declared.seen.Freshness.TheVariants.{New, Repeat}
use Rattle.sg_replay.specs.Seen.{freshness_at}
use Rattle.sg_replay.proofs.MarkLists.{freshness_stands, test_empty, test_above, test_marked, test_unmarked}
use Rattle.sg_replay.proofs.seen.Seen.test.Goals as goal

pub returns-in_default-clause-value : goal.returns-in_default-clause-value
returns-in_default-clause-value c =
    subst (λ m. New ≡ freshness_at m c.args.index) c.self.view_is (test_empty c.self.inside.window c.self.inside.highest c.self.inside.row c.args.index c.in_default.is)

pub returns-in_default-clause-fresh : goal.returns-in_default-clause-fresh
returns-in_default-clause-fresh c = λ window done s. returns-in_default-clause-value c ∙ freshness_stands _ window done c.args.index s

pub returns-then-index-highest-clause-value : goal.returns-then-index-highest-clause-value
returns-then-index-highest-clause-value c =
    subst (λ m. New ≡ freshness_at m c.args.index) c.self.view_is
    (test_above c.self.inside.window c.self.inside.highest c.self.inside.row c.in-Some.highest c.args.index c.in-Some.is c.if-index-highest.true (omega arith))

pub returns-then-index-highest-clause-fresh : goal.returns-then-index-highest-clause-fresh
returns-then-index-highest-clause-fresh c = λ window done s. returns-then-index-highest-clause-value c ∙ freshness_stands _ window done c.args.index s

pub returns-then-is_marked-clause-value : goal.returns-then-is_marked-clause-value
returns-then-is_marked-clause-value c =
    subst (λ m. Repeat ≡ freshness_at m c.args.index) c.self.view_is
    (test_marked c.self.inside.window c.self.inside.highest c.self.inside.row c.in-Some.highest c.args.index c.in-Some.is c.if-index-highest.false (omega arith) (search rules))

pub returns-then-is_marked-clause-fresh : goal.returns-then-is_marked-clause-fresh
returns-then-is_marked-clause-fresh c = λ window done s. returns-then-is_marked-clause-value c ∙ freshness_stands _ window done c.args.index s

pub returns-else-is_marked-clause-value : goal.returns-else-is_marked-clause-value
returns-else-is_marked-clause-value c =
    subst (λ m. New ≡ freshness_at m c.args.index) c.self.view_is
    (test_unmarked c.self.inside.window c.self.inside.highest c.self.inside.row c.in-Some.highest c.args.index c.in-Some.is c.if-index-highest.false (omega arith) (search rules))

pub returns-else-is_marked-clause-fresh : goal.returns-else-is_marked-clause-fresh
returns-else-is_marked-clause-fresh c = λ window done s. returns-else-is_marked-clause-value c ∙ freshness_stands _ window done c.args.index s
