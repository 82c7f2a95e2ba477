use Rattle.std.proofs.lemmas.List.Elements.{All-from_recursion}
use Rattle.sg_conduct.proofs.Settling.{each_settled}
use Rattle.sg_conduct.specs.Settled.{DatagramIsSettled}
use Rattle.sg_conduct.proofs.laws.datagrams_are_settled.Goals as goal
use Rattle.sg_gateway.proofs.Common.{empty, turns}

pub returns : goal.returns
returns c = λ events. All-from_recursion DatagramIsSettled (turns events) (each_settled empty events)
