use Rattle.sg_conduct.proofs.Words.{words_mean}
use Rattle.sg_conduct.proofs.laws.words_mean_what_they_say.Goals as goal

pub returns : goal.returns
returns c = words_mean
