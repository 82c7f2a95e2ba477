use Rattle.sg_sdes.proofs.LineGrammar.{crypto_again}
use Rattle.sg_sdes.proofs.ValidLaws.{crypto_valid}
use Rattle.sg_sdes.proofs.laws.crypto_lines_are_read_again.Goals as goal

pub returns-clause-again : goal.returns-clause-again
returns-clause-again c = crypto_again

pub returns-clause-valid : goal.returns-clause-valid
returns-clause-valid c = crypto_valid
