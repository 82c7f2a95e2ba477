use Rattle.sg_gateway.proofs.ByTexts.{answers_by_texts}
use Rattle.sg_gateway.proofs.laws.answers_are_by_their_texts.Goals as goal

pub returns : goal.returns
returns c = answers_by_texts
