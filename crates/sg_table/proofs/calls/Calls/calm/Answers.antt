use Rattle.std.proofs.Common.{subst}
use Rattle.std.specs.List.{AllByRecursion}
use Rattle.sg_table.specs.Calm.{CallRests, IsCalm}
use Rattle.sg_table.proofs.calls.Calls.calm.Goals as goal

pub returns : goal.returns
returns c = subst (IsCalm c.calm_of.result) c.self.view_is (record { soon = c.calm_of.ensures.soon; calls = subst (λ cs. AllByRecursion (CallRests c.calm_of.result c.self.inside.moment) cs) c.deref.ensures.value c.calm_of.ensures.calls })
