use Rattle.std.proofs.Common.{List, ℕ, subst, slice_index}
use Rattle.sg_ctr.specs.Xor.{XorsOnto}
use Rattle.sg_ctr.proofs.CounterLemmas.{lanes_of_blocks}
use Rattle.sg_ctr.proofs.xor.xor_blocks_of_two.Goals as goal

pub returns-clause-sum : goal.returns-clause-sum
returns-clause-sum c =
    subst (λ (xs : List ℕ). XorsOnto c.args.part.now c.xor_whole.new.part c.args.at 32 (slice_index xs)) (lanes_of_blocks c.args.left.now c.args.right.now c.told-left c.told-right) c.xor_whole.ensures
