use Rattle.std.proofs.Common.{[], refl, ◌∙◌}
use Rattle.sg_lines.specs.declared.lines.Signal.TheVariants.{Tick}
use Rattle.sg_relay.proofs.Common.{Happens, Signalled, StandsFor, called_none, signal_noted, signal_of, wrote_none}
use Rattle.sg_relay.proofs.Deeds.{done_none}
use Rattle.sg_relay.proofs.Joins.{one_done}
use Rattle.sg_relay.proofs.joined.SwitchboardHandling.tick.Goals as goal

pub returns-then-tick_quietly-clause-ticked : goal.returns-then-tick_quietly-clause-ticked
returns-then-tick_quietly-clause-ticked g c = λ state stands.
    let noted = signal_noted state (Tick c.args.moment) [] c.tick_quietly.new.self refl (c.tick_quietly.ensures.calls ∙ stands.1)
    (c.tick_quietly.ensures.told c.if-tick_quietly.true state.world stands.0) in (
      [],
      [],
      called_none _,
      wrote_none _,
      one_done state (Happens (Signalled (signal_of (Tick c.args.moment)))) [] noted.0 (StandsFor c.tick_quietly.new.self) [] [] (tt {0}) (done_none, tt, refl) noted.1,
    )
