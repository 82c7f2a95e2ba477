use Rattle.sg_pairs.proofs.Lasting.{all_last}
use Rattle.sg_pairs.proofs.laws.pairs_last_until_parted.Goals as goal

pub returns : goal.returns
returns c = all_last c.offers_fit_their_calls.ensures.count (λ es. (c.calls_in_order.ensures es).1)
