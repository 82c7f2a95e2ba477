use Rattle.std.proofs.Common.{arith, ◌∙◌, sym}
use Rattle.sg_replay.proofs.MarkLists.{mark_up_to-above}
use Rattle.sg_replay.proofs.RowBits.{none_set}
use Rattle.sg_replay.proofs.marks.advance.Goals as goal

pub returns-then-to-from-ge-ROW : goal.returns-then-to-from-ge-ROW
returns-then-to-from-ge-ROW c = λ i p q. none_set _ ∙ sym (mark_up_to-above c.args.from _ i (omega arith))
