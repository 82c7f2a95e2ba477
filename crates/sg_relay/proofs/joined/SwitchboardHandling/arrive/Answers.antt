use Rattle.std.proofs.Common.{[], ◌∷◌}
use Rattle.sg_gateway.specs.Octets.{as_octets}
use Rattle.sg_relay.proofs.Common.{Datagram, Happens, StandsFor, outcome_of}
use Rattle.sg_relay.proofs.Joins.{one_done}
use Rattle.sg_relay.proofs.joined.SwitchboardHandling.arrive.Goals as goal

pub returns-in-Ok-clause-arrived : goal.returns-in-Ok-clause-arrived
returns-in-Ok-clause-arrived g c = λ state stands.
    let became = c.datagram-switched.ensures state stands in
    let done = c.in-Ok.ensures.done in (
      done.0,
      done.1,
      done.2,
      done.3,
      one_done state (Happens (Datagram c.args.port c.args.from (as_octets c.args.pad))) (outcome_of c.datagram-switched.result ∷ []) became.0 (StandsFor c.datagram-switched.new.self) done.0 done.1
          c.datagram-switched.result.pad done.4 became.1,
    )
