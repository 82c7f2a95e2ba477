use Rattle.std.proofs.Common.{◌≡◌, ◌-◌, ◌+◌, length}
use Rattle.sg_mikey.specs.declared.chain.Stage.TheVariants.{BeforeTime}
use Rattle.sg_mikey.specs.Reading.{chain_at}
use Rattle.sg_mikey.proofs.Loops.{with_prefix}
use Rattle.sg_mikey.proofs.reading.read_chain.Given as goal

abbrev pub invariant-loop : goal.invariant-loop
invariant-loop l =
    with_prefix l.payloads.items (chain_at (length l.octets + 1 - l.counter) l.kind l.stage l.next l.rest)
    ≡ chain_at (length l.octets + 1) l.kind BeforeTime l.first l.octets
