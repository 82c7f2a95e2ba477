use Rattle.sg_pairs.proofs.OutcomeLines.{line_again, line_takes}
use Rattle.sg_pairs.proofs.laws.bridge_outcomes_have_one_spelling.Goals as goal

pub returns : goal.returns
returns c =
    let law = c.outcomes_have_one_spelling.ensures in
    λ line o. (line_takes law.again law.takes line o, λ is. line_again law.again law.takes line o is.0 is.1 is.2)
