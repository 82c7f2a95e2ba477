-- `are_ended` ends, since there are fewer words each time.
use Rattle.std.proofs.Common.{length}
use Rattle.sg_words.proofs.spelling.+are_ended.Given as goal

abbrev pub decreases-are_ended : goal.decreases-are_ended
decreases-are_ended l = length l.words.now
