use Rattle.std.specs.Prelude.{false}
use Rattle.sg_relay.proofs.JoinedPorts.{ports_of_joined}
use Rattle.sg_relay.proofs.laws.ports_of_joined_calls_are_of_calls.Goals as goal

pub returns : goal.returns
returns c = ports_of_joined (λ events. c.ports_are_of_calls.ensures false events)
