use Rattle.sg_relay.proofs.Sharing.{ports_of_run}
use Rattle.sg_relay.proofs.laws.ports_are_of_calls.Goals as goal

pub returns : goal.returns
returns c = ports_of_run c.offers_fit_their_calls.ensures.count (λ es. (c.calls_in_order.ensures es).1)
