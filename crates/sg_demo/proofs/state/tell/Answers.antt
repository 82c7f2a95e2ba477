use Rattle.std.proofs.Common.{ap, ◌∙◌}
use Rattle.sg_demo.specs.Demonstration.{slot_told}
use Rattle.sg_demo.proofs.state.tell.Goals as goal

pub returns-clause-told : goal.returns-clause-told
returns-clause-told c = λ w stands. c.slot_told.ensures ∙ ap slot_told (c.in_ok-told.ensures.told w stands).0

pub returns-clause-taken : goal.returns-clause-taken
returns-clause-taken c = λ w stands. (c.in_ok-told.ensures.told w stands).1
