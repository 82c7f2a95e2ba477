use Rattle.std.proofs.Common.{sym}
use Rattle.sg_psk.proofs.AcceptLemmas.{anyway}
use Rattle.sg_psk.proofs.accepting.initial_under.Goals as goal

pub returns-in-None-clause-needs : goal.returns-in-None-clause-needs
returns-in-None-clause-needs c = anyway c.with_keys.result (sym c.in-None.ensures)
