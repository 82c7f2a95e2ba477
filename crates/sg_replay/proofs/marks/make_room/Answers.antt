use Rattle.std.proofs.Common.{◌∙◌, ◌%◌, sym, ap}
use Rattle.sg_replay.specs.Row.{mark_up_to}
use Rattle.sg_replay.proofs.RowBits.{none_set}
use Rattle.sg_replay.proofs.marks.make_room.Goals as goal

pub returns-in-None : goal.returns-in-None
returns-in-None c = λ i p q. none_set (i % 1024) ∙ ap (λ o. mark_up_to o c.args.row.now i) (sym c.in-None.is)
