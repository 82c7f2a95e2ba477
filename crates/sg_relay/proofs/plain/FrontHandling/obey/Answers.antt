use Rattle.std.proofs.Common.{[]}
use Rattle.sg_relay.specs.Plain.{acting}
use Rattle.sg_relay.proofs.Common.{FrontStandsFor, called_none, events_of_signal, wrote_none}
use Rattle.sg_relay.proofs.Deeds.{unhandled}
use Rattle.sg_relay.proofs.plain.FrontHandling.obey.Goals as goal

pub returns-in-Err-clause-obeyed : goal.returns-in-Err-clause-obeyed
returns-in-Err-clause-obeyed g c = λ state stands. ([], [], called_none _, wrote_none _, unhandled acting state (events_of_signal c.args.signal.now) (FrontStandsFor c.take.new.self))
