use Rattle.std.proofs.Common.{sym, subst}
use Rattle.sg_demo.specs.declared.action.Action.{Action}
use Rattle.sg_demo.proofs.Acting.{on_ok, swap_anywhere, takes_answer, takes_change, takes_lose, takes_repeat, takes_send}
use Rattle.sg_demo.proofs.Turning.{Takes}
use Rattle.sg_demo.proofs.round.Round.turn.Goals as goal

pub returns-in_ok-seal-in-Lose-clause-turn : goal.returns-in_ok-seal-in-Lose-clause-turn
returns-in_ok-seal-in-Lose-clause-turn c =
    subst (λ (a : Action). Takes a c.args.position c.args.caller.now c.seal.new.caller c.args.self.now c.seal.new.self) (sym c.in-Lose.is)
    (takes_lose c.args.position c.args.caller.now c.seal.new.caller c.args.self.now c.seal.new.self c.in_ok-seal-in-Lose.field-0 c.in_ok-seal-in-Lose.ensures.sealed)

pub returns-in-Repeat-clause-turn : goal.returns-in-Repeat-clause-turn
returns-in-Repeat-clause-turn c =
    on_ok c.repeat.result c.repeat.ensures.gathered (λ sends.
    subst (λ (a : Action). Takes a c.args.position c.args.caller.now c.args.caller.now c.args.self.now c.repeat.new.self) (sym c.in-Repeat.is)
    (takes_repeat c.args.position c.args.caller.now c.args.self.now c.repeat.new.self sends))

pub returns-in-Swap-clause-turn : goal.returns-in-Swap-clause-turn
returns-in-Swap-clause-turn c =
    on_ok c.swap.result c.swap.ensures.turn (λ takes.
    subst (λ (a : Action). Takes a c.args.position c.args.caller.now c.swap.new.caller c.args.self.now c.swap.new.self) (sym c.in-Swap.is)
    (swap_anywhere c.args.position c.args.caller.now c.swap.new.caller c.args.self.now c.swap.new.self takes))

pub returns-in_ok-pad-in-Answer-clause-turn : goal.returns-in_ok-pad-in-Answer-clause-turn
returns-in_ok-pad-in-Answer-clause-turn c =
    on_ok c.push.result c.push.ensures.gathered (λ pushes.
    subst (λ (a : Action). Takes a c.args.position c.args.caller.now c.next_plain.new.self c.args.self.now c.push.new.self) (sym c.in-Answer.is)
    (takes_answer c.args.position c.args.caller.now c.next_plain.new.self c.args.self.now c.push.new.self c.plain_port-port.result c.in_ok-pad-in-Answer.pad c.plain_port-port.ensures c.in_ok-pad-in-Answer.ensures pushes))

pub returns-in_ok-pad-in-Change-clause-turn : goal.returns-in_ok-pad-in-Change-clause-turn
returns-in_ok-pad-in-Change-clause-turn c =
    on_ok c.send.result c.send.ensures.gathered (λ sends.
    subst (λ (a : Action). Takes a c.args.position c.args.caller.now c.seal-in-Change.new.caller c.args.self.now c.send.new.self) (sym c.in-Change.is)
    (takes_change c.args.position c.args.caller.now c.seal-in-Change.new.caller c.args.self.now c.seal-in-Change.new.self c.send.new.self c.in_ok-pad-in-Change.pad c.changed.result c.changed.ensures c.in_ok-pad-in-Change.ensures.sealed sends))

pub returns-in_ok-pad-in-Send-clause-turn : goal.returns-in_ok-pad-in-Send-clause-turn
returns-in_ok-pad-in-Send-clause-turn c =
    on_ok c.send-in-Send.result c.send-in-Send.ensures.gathered (λ sends.
    subst (λ (a : Action). Takes a c.args.position c.args.caller.now c.seal-in-Send.new.caller c.args.self.now c.send-in-Send.new.self) (sym c.in-Send.is)
    (takes_send c.args.position c.args.caller.now c.seal-in-Send.new.caller c.args.self.now c.seal-in-Send.new.self c.send-in-Send.new.self c.in_ok-pad-in-Send.pad c.in_ok-pad-in-Send.ensures.sealed sends))
