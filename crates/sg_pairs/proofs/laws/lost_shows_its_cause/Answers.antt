use Rattle.sg_pairs.proofs.LostCauses.{each_lost_shows}
use Rattle.sg_pairs.proofs.laws.lost_shows_its_cause.Goals as goal

pub returns : goal.returns
returns c = λ said. each_lost_shows c.drops_show_causes.ensures said (c.each_line_happens.ensures.worlds said) (c.lost_is_refused.ensures.refused said)
