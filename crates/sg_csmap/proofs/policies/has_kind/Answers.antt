use Rattle.std.proofs.Common.{ℕ, List, ◌==◌, ◌∙◌}
use Rattle.sg_csmap.proofs.Loops.{found_is}
use Rattle.sg_csmap.proofs.policies.has_kind.Goals as goal

pub returns : goal.returns
returns c =
    c.is_some.ensures ∙ found_is (λ (item : ℕ × List ℕ). item.0 == c.args.kind) c.args.items.now (λ item. item.now) c.item_of.result c.item_of.ensures
