use Rattle.sg_agreement.proofs.Walks.{active_at}
use Rattle.sg_agreement.proofs.laws.active_media_are_taken_in_order.Goals as goal

pub returns : goal.returns
returns c = λ side value done i m ms lt at. active_at side value done i m ms lt at
