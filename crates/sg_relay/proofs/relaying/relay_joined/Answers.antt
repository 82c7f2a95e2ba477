use Rattle.std.proofs.Common.{refl}
use Rattle.sg_relay.specs.Joined.{acting, acts, weaves, world}
use Rattle.sg_relay.proofs.Holds.{has_passed, nothing_passed}
use Rattle.sg_relay.proofs.relaying.relay_joined.Goals as goal
use Rattle.sg_switchboard.specs.Switching.{start}

pub returns-in-Err-clause-ran : goal.returns-in-Err-clause-ran
returns-in-Err-clause-ran g c = nothing_passed weaves acts world refl c.args.turns _ _

pub returns-in-Ok-clause-ran : goal.returns-in-Ok-clause-ran
returns-in-Ok-clause-ran g c =
    has_passed weaves (acting.acts start) acts world (λ ds. refl) c.ports_of_joined_calls_are_of_calls.ensures c.play.result _ _ _ _ _
    (c.play.ensures.ran start c.in-Ok.ensures) c.play.ensures.read.rose c.play.ensures.write.rose c.play.ensures.clock.rose c.play.ensures.noise.rose c.play.ensures.link.rose
