-- `have_option` ends, since there are fewer words each time.
use Rattle.std.proofs.Common.{length}
use Rattle.sg_words.proofs.spelling.+have_option.Given as goal

abbrev pub decreases-have_option : goal.decreases-have_option
decreases-have_option l = length l.words.now
