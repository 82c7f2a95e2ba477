use Rattle.std.proofs.Common.{[], refl, true}
use Rattle.sg_bridge.specs.Bridge.{bridge_text, of_bridge}
use Rattle.sg_bridge.proofs.bridging.bridge.Goals as goal
use Rattle.sg_switchboard.specs.Switching.{start}
use Rattle.sg_trace.proofs.Ends.{nothing_run}

pub returns-in-Err-clause-ran : goal.returns-in-Err-clause-ran
returns-in-Err-clause-ran g c = ([], [], [], nothing_run of_bridge bridge_text 2 true _ refl)

pub returns-in-Ok-clause-ran : goal.returns-in-Ok-clause-ran
returns-in-Ok-clause-ran g c = c.run_script.ensures.ran start c.in-Ok.ensures

pub returns-in-Ok-clause-read : goal.returns-in-Ok-clause-read
returns-in-Ok-clause-read g c = c.run_script.ensures.prompt refl

pub returns-in-Ok-clause-complete : goal.returns-in-Ok-clause-complete
returns-in-Ok-clause-complete g c = c.run_script.ensures.complete
