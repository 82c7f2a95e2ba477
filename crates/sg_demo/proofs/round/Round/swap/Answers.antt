use Rattle.std.proofs.Common.{arith}
use Rattle.sg_demo.proofs.Acting.{on_ok, takes_swap}
use Rattle.sg_demo.proofs.Within.{more_small}
use Rattle.sg_demo.proofs.round.Round.swap.Goals as goal

pub seal-requires : goal.seal-requires
seal-requires c = more_small 600 600 1000 1000 c.args.self.now (omega arith) (omega arith) c.requires

pub seal-requires-2 : goal.seal-requires-2
seal-requires-2 c = more_small 601 600 1000 1000 c.seal.new.self (omega arith) (omega arith) (c.seal.ensures.small 600 600 c.requires)

pub returns-clause-turn : goal.returns-clause-turn
returns-clause-turn c =
    on_ok c.send-2.result c.send-2.ensures.gathered (λ sends.
    takes_swap 0 c.args.caller.now c.seal.new.caller c.seal-2.new.caller c.args.self.now c.seal.new.self c.seal-2.new.self c.send.new.self c.send-2.new.self c.in_ok-first.first c.in_ok-second.second
    c.in_ok-first.ensures.sealed c.in_ok-second.ensures.sealed c.in_ok-send.ensures.gathered sends)
