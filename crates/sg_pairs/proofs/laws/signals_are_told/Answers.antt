use Rattle.sg_pairs.proofs.Lasting.{all_signals}
use Rattle.sg_pairs.proofs.laws.signals_are_told.Goals as goal

pub returns : goal.returns
returns c = all_signals c.offers_fit_their_calls.ensures.count (λ es. (c.calls_in_order.ensures es).1)
