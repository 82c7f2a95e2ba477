use Rattle.sg_pairs.proofs.Lasting.{all_as_told, all_so}
use Rattle.sg_pairs.proofs.laws.joins_have_their_causes.Goals as goal

pub returns-clause-causes : goal.returns-clause-causes
returns-clause-causes c = all_so c.offers_fit_their_calls.ensures.count (λ es. (c.calls_in_order.ensures es).1)

pub returns-clause-told : goal.returns-clause-told
returns-clause-told c = all_as_told c.offers_fit_their_calls.ensures.count (λ es. (c.calls_in_order.ensures es).1)
