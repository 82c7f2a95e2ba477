use Rattle.sg_base.proofs.Cuts.{cut_again, cut_takes, cut_lacks}
use Rattle.sg_base.proofs.spellings.cut_spelling.Goals as goal

pub returns-clause-again : goal.returns-clause-again
returns-clause-again c = cut_again

pub returns-clause-takes : goal.returns-clause-takes
returns-clause-takes c = λ octet text prefix rest e. (cut_takes octet text prefix rest e, cut_lacks octet text prefix rest e)
