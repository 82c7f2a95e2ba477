use Rattle.sg_agreement.proofs.FewMedia.{offer_media, offer_count}
use Rattle.sg_agreement.proofs.laws.offers_fit_their_calls.Goals as goal

pub returns-clause-described : goal.returns-clause-described
returns-clause-described c = offer_media

pub returns-clause-count : goal.returns-clause-count
returns-clause-count c = offer_count
