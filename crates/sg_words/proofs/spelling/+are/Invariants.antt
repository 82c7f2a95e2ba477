-- `are` ends, since there are fewer words each time.
use Rattle.std.proofs.Common.{length}
use Rattle.sg_words.proofs.spelling.+are.Given as goal

abbrev pub decreases-are : goal.decreases-are
decreases-are l = length l.words.now
