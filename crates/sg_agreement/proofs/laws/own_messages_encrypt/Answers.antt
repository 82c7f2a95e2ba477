use Rattle.sg_agreement.proofs.OwnMessages.{by_own_message}
use Rattle.sg_agreement.proofs.laws.own_messages_encrypt.Goals as goal

pub returns : goal.returns
returns c = by_own_message
