use Rattle.sg_mikey.proofs.MessageLaws.{found, message_again}
use Rattle.sg_mikey.proofs.laws.message_law.Goals as goal

pub returns-clause-again : goal.returns-clause-again
returns-clause-again c = message_again

pub returns-clause-found : goal.returns-clause-found
returns-clause-found c = λ octets m fits e. found octets m fits e
