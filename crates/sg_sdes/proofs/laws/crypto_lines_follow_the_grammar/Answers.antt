use Rattle.sg_sdes.proofs.LineGrammar.{line_read_iff}
use Rattle.sg_sdes.proofs.laws.crypto_lines_follow_the_grammar.Goals as goal

pub returns : goal.returns
returns c = line_read_iff
