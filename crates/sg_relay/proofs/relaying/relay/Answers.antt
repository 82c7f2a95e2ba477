use Rattle.std.proofs.Common.{map, [], ap, sym}
use Rattle.sg_relay.specs.Plain.{acting, acts, weaves, world}
use Rattle.sg_relay.proofs.Common.{act_of, start, told_in}
use Rattle.sg_relay.proofs.Holds.{has_passed, nothing_passed}
use Rattle.sg_relay.proofs.relaying.relay.Goals as goal

pub returns-in-Err-clause-ran : goal.returns-in-Err-clause-ran
returns-in-Err-clause-ran g c = let muxes = c.args.options.muxes in nothing_passed weaves (acts muxes) (world muxes) (ap (map act_of) (sym (told_in muxes []))) c.args.options.turns _ _

pub play-requires : goal.play-requires
play-requires g c = record { stands = (start c.args.options.muxes, c.in-Ok.ensures) }

pub returns-in-Ok-clause-ran : goal.returns-in-Ok-clause-ran
returns-in-Ok-clause-ran g c =
    let muxes = c.args.options.muxes in
    has_passed weaves (acting.acts (start muxes)) (acts muxes) (world muxes) (λ ds. ap (map act_of) (told_in muxes ds)) (c.ports_are_of_calls.ensures muxes) c.play.result _ _ _ _ _
    (c.play.ensures.ran (start muxes) c.in-Ok.ensures) c.play.ensures.read.rose c.play.ensures.write.rose c.play.ensures.clock.rose c.play.ensures.noise.rose c.play.ensures.link.rose
