use Rattle.std.proofs.Common.{◌∙◌, rules}
use Rattle.sg_replay.proofs.MarkLists.{places_apart}
use Rattle.sg_replay.proofs.marks.mark.Goals as goal

pub returns-clause-others : goal.returns-clause-others
returns-clause-others c = λ i p q ne.
    c.set.ensures.others _ (search rules) (λ same. places_apart c.args.highest i c.args.index c.requires p q ne (same ∙ c.place_of.ensures))
    ∙ c.make_room.ensures i p q
