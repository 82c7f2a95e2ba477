use Rattle.sg_pairs.proofs.Lasting.{all_known}
use Rattle.sg_pairs.proofs.laws.members_are_the_calls.Goals as goal

pub returns : goal.returns
returns c = all_known c.offers_fit_their_calls.ensures.count (λ es. (c.calls_in_order.ensures es).1)
